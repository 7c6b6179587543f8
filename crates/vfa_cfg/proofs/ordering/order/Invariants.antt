use Rattle.vfa_cfg.proofs.Walking.{IsOnWay}
use Rattle.vfa_cfg.proofs.Weights.{weight}
use Rattle.vfa_cfg.proofs.ordering.order.Given as goal

abbrev pub invariant-visits : goal.invariant-visits
invariant-visits l = IsOnWay l.f l.walk

abbrev pub decreases-visits : goal.decreases-visits
decreases-visits l = weight l.f l.walk
