use Rattle.vfa_cond.proofs.Fitting.{some_of}
use Rattle.vfa_walk.proofs.States.{copied_state}
use Rattle.vfa_walk.proofs.pairs.same.Goals as goal

pub returns-clause-state : goal.returns-clause-state
returns-clause-state g c =
    some_of _ _ (copied_state g.V.Values.ty g.V.Values.proper c.args.f.now c.args.state.now c.in_ok-copied.field-0 c.requires.state c.in_ok-copied.ensures.state
    c.in_ok-copied.ensures.names c.in_ok-copied.ensures.room)
