use Rattle.std.proofs.Common.{◌≡◌, false, length, sym, ◌∙◌, None}
use Rattle.std.specs.Option.{is_some}
use Rattle.vfa_ir.specs.Defined.{inst_uses, term_names, uses_at}
use Rattle.vfa_check.specs.Uses.{IsScopeAt}
use Rattle.vfa_check.proofs.UsesTold.{after_insts, names_none, no_phi, scope_then}
use Rattle.vfa_check.proofs.uses.missed_in_lines.Goals as goal

pub returns-in-None : goal.returns-in-None
returns-in-None c =
    let f = c.args.f.now in
    let b = c.args.b.0 in
    let block = c.args.block.now in
    let missed = c.missed_in_insts-missed.result in
    let none : is_some missed ≡ false = sym c.is_some.ensures ∙ c.if-is_some.false in
    let scope = scope_then missed (IsScopeAt f b (length block.insts) c.missed_in_insts-missed.new.here) none c.missed_in_insts-missed.ensures.scope in
    after_insts f (inst_uses f b 0 block.insts) (uses_at b (length block.insts) (term_names block.term)) None
    (no_phi f (inst_uses f b 0 block.insts) missed none c.missed_in_insts-missed.ensures.tells)
    (names_none f b (length block.insts) c.missed_in_insts-missed.new.here (term_names block.term) scope c.in-None.ensures)
