use Rattle.std.proofs.Common.{Some, ap, sym, ◌∙◌}
use Rattle.std.specs.Option.{option_map}
use Rattle.vfa_cond.specs.States.{known}
use Rattle.vfa_cond.proofs.Fitting.{some_of}
use Rattle.vfa_walk.proofs.States.{copied_state}
use Rattle.vfa_walk.proofs.passes.copied.Goals as goal

pub returns-in_ok-copied-in-Some-clause-same : goal.returns-in_ok-copied-in-Some-clause-same
returns-in_ok-copied-in-Some-clause-same g c = ap Some c.in_ok-copied-in-Some.ensures.state ∙ sym (ap (option_map known) c.in-Some.is)

pub returns-in_ok-copied-in-Some-clause-state : goal.returns-in_ok-copied-in-Some-clause-state
returns-in_ok-copied-in-Some-clause-state g c =
    some_of _ _ (copied_state g.V.Values.ty g.V.Values.proper c.args.f.now c.in-Some.state c.in_ok-copied-in-Some.field-0 (c.requires c.in-Some.state c.in-Some.is)
    c.in_ok-copied-in-Some.ensures.state c.in_ok-copied-in-Some.ensures.names c.in_ok-copied-in-Some.ensures.room)
