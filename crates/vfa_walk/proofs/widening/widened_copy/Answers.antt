use Rattle.std.proofs.Common.{◌∙◌, ap}
use Rattle.vfa_cond.specs.States.{known}
use Rattle.vfa_walk.specs.Joining.{widened}
use Rattle.vfa_walk.proofs.States.{copied_state}
use Rattle.vfa_walk.proofs.widening.widened_copy.Goals as goal

pub widen-requires-clause-state : goal.widen-requires-clause-state
widen-requires-clause-state g c =
    copied_state g.V.Values.ty g.V.Values.proper c.args.f.now c.args.old.now c.in_ok-state.state c.requires.old c.in_ok-state.ensures.state
    c.in_ok-state.ensures.names c.in_ok-state.ensures.room

pub returns-clause-widened : goal.returns-clause-widened
returns-clause-widened g c =
    c.widen.ensures.change ∙ ap (λ s. widened g.V.Values.answers c.args.f.now c.args.round s (known c.args.new.now)) c.in_ok-state.ensures.state
