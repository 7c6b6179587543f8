use Rattle.std.proofs.Common.{sym, subst, IfOk, ◌≡◌}
use Rattle.std.specs.Option.{option_map}
use Rattle.vfa_cond.specs.States.{known}
use Rattle.vfa_walk.proofs.Found.{edge_found, no_edge}
use Rattle.vfa_walk.proofs.pairs.edge_state_in.Goals as goal

pub returns-in-Some-clause-along : goal.returns-in-Some-clause-along
returns-in-Some-clause-along g c =
    subst (λ r. IfOk c.along.result (λ o. option_map known o ≡ r))
    (sym (edge_found g.V.Values.answers c.args.f.now c.args.edge (known c.args.end.now) c.in-Some.block.now (sym c.in-Some.ensures))) c.along.ensures.along

pub returns-in-None-clause-along : goal.returns-in-None-clause-along
returns-in-None-clause-along g c =
    subst (λ r. IfOk c.same.result (λ o. option_map known o ≡ r))
    (sym (no_edge g.V.Values.answers c.args.f.now c.args.edge (known c.args.end.now) (sym c.in-None.ensures))) c.same.ensures.same
