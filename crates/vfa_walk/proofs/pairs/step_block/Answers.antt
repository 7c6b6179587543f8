use Rattle.std.proofs.Common.{sym, subst, ◌∙◌}
use Rattle.vfa_cond.specs.Narrowing.{Becomes}
use Rattle.vfa_cond.specs.States.{known}
use Rattle.vfa_walk.specs.Stepping.{after_insts}
use Rattle.vfa_walk.proofs.Found.{insts_found}
use Rattle.vfa_walk.proofs.pairs.step_block.Goals as goal

pub returns-in-Some-clause-becomes : goal.returns-in-Some-clause-becomes
returns-in-Some-clause-becomes g c =
    subst (λ list. Becomes (after_insts g.V.Values.answers c.args.f.now list (known c.args.state.now)) c.step_all.result (known c.step_all.new.state))
    (c.as_slice.ensures ∙ sym (insts_found c.args.f.now c.args.b.0 c.in-Some.block.now (sym c.in-Some.ensures))) c.step_all.ensures.becomes
