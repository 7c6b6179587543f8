use Rattle.std.proofs.Common.{sym, ◌∙◌, ap}
use Rattle.vfa_walk.specs.Leaving.{along_way}
use Rattle.vfa_walk.proofs.States.{copied_state}
use Rattle.vfa_walk.proofs.Steps.{becomes_is, becomes_nothing}
use Rattle.vfa_walk.proofs.leaving.along.Goals as goal

pub take_edge-requires-clause-state : goal.take_edge-requires-clause-state
take_edge-requires-clause-state g c =
    copied_state g.V.Values.ty g.V.Values.proper c.args.f.now c.args.end.now c.in_ok-state.state c.requires.state c.in_ok-state.ensures.state
    c.in_ok-state.ensures.names c.in_ok-state.ensures.room

pub returns-then-take_edge-clause-along : goal.returns-then-take_edge-clause-along
returns-then-take_edge-clause-along g c =
    sym (becomes_is _ _ (rw c.if-take_edge.true at c.take_edge.ensures.becomes))
    ∙ ap (along_way g.V.Values.answers c.args.f.now c.args.term.now c.args.way) c.in_ok-state.ensures.state

pub returns-clause-along : goal.returns-clause-along
returns-clause-along g c =
    sym (becomes_nothing _ _ (rw c.if-take_edge.false at c.take_edge.ensures.becomes))
    ∙ ap (along_way g.V.Values.answers c.args.f.now c.args.term.now c.args.way) c.in_ok-state.ensures.state
