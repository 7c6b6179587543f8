use Rattle.std.proofs.Common.{◌∙◌, ap}
use Rattle.vfa_cond.specs.States.{known}
use Rattle.vfa_walk.specs.Leaving.{assigned}
use Rattle.vfa_walk.proofs.States.{copied_state}
use Rattle.vfa_walk.proofs.leaving.assigned_copy.Goals as goal

pub assign-requires-clause-state : goal.assign-requires-clause-state
assign-requires-clause-state g c =
    copied_state g.V.Values.ty g.V.Values.proper c.args.f.now c.args.before.now c.in_ok-state.state c.requires.state c.in_ok-state.ensures.state
    c.in_ok-state.ensures.names c.in_ok-state.ensures.room

pub returns-clause-change : goal.returns-clause-change
returns-clause-change g c =
    c.assign.ensures.change
    ∙ (ap (λ phis. assigned g.V.Values.answers c.args.f.now c.args.from.0 (known c.args.before.now) phis (known c.in_ok-state.state)) c.as_slice.ensures
    ∙ ap (assigned g.V.Values.answers c.args.f.now c.args.from.0 (known c.args.before.now) c.args.block.now.phis) c.in_ok-state.ensures.state)
