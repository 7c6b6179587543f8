use Rattle.std.proofs.Common.{◌∙◌, ap}
use Rattle.vfa_cond.specs.States.{known}
use Rattle.vfa_walk.proofs.States.{without}
use Rattle.vfa_walk.proofs.definitions.end_equation.Goals as goal

pub returns-then-live-clause-live : goal.returns-then-live-clause-live
returns-then-live-clause-live g c w = ap (λ s. s.live w) c.set_live.ensures.change ∙ without c.args.u.0 w (known c.args.state.now).live

pub returns-then-live-clause-facts : goal.returns-then-live-clause-facts
returns-then-live-clause-facts g c = ap (λ s. s.fact) c.set_live.ensures.change
