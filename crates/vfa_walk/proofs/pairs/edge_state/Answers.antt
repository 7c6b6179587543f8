use Rattle.std.proofs.Common.{subst, IfOk, ◌≡◌}
use Rattle.std.specs.Option.{option_map}
use Rattle.vfa_cond.specs.States.{known}
use Rattle.vfa_walk.specs.Leaving.{along_edge}
use Rattle.vfa_walk.proofs.pairs.edge_state.Goals as goal

pub returns-clause-along : goal.returns-clause-along
returns-clause-along g c =
    subst (λ h. IfOk c.edge_state_in.result (λ o. option_map known o ≡ along_edge g.V.Values.answers h c.args.edge (known c.args.end.now))) c.ready.ensures.same c.edge_state_in.ensures.along
