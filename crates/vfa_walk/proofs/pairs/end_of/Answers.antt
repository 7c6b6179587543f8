use Rattle.std.proofs.Common.{◌∙◌, ap, sym}
use Rattle.vfa_walk.specs.Stepping.{before_end}
use Rattle.vfa_walk.proofs.States.{copied_state}
use Rattle.vfa_walk.proofs.Steps.{becomes_is, becomes_nothing}
use Rattle.vfa_walk.proofs.pairs.end_of.Goals as goal

pub step_block-requires-clause-state : goal.step_block-requires-clause-state
step_block-requires-clause-state g c =
    copied_state g.V.Values.ty g.V.Values.proper c.args.f.now c.args.entry.now c.in_ok-state.state c.requires.state c.in_ok-state.ensures.state
    c.in_ok-state.ensures.names c.in_ok-state.ensures.room

pub returns-then-step_block-clause-end : goal.returns-then-step_block-clause-end
returns-then-step_block-clause-end g c =
    sym (becomes_is _ _ (rw c.if-step_block.true at c.step_block.ensures.becomes))
    ∙ ap (before_end g.V.Values.answers c.args.f.now c.args.b.0) c.in_ok-state.ensures.state

pub returns-clause-end : goal.returns-clause-end
returns-clause-end g c =
    sym (becomes_nothing _ _ (rw c.if-step_block.false at c.step_block.ensures.becomes))
    ∙ ap (before_end g.V.Values.answers c.args.f.now c.args.b.0) c.in_ok-state.ensures.state
