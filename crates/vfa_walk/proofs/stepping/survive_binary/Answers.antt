use Rattle.std.proofs.Common.{◌∙◌, sym, ◌≡◌, true}
use Rattle.vfa_walk.specs.Stepping.{is_division}
use Rattle.vfa_walk.proofs.stepping.survive_binary.Goals as goal

pub returns-clause-becomes : goal.returns-clause-becomes
returns-clause-becomes g c flags a =
    let e : is_division c.args.bin ≡ true = sym c.is_division.ensures ∙ c.if-not-is_division.false in
    rw e c.tell.ensures.becomes
