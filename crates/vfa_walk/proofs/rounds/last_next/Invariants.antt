use Rattle.std.proofs.Common.{◌≡◌, ◌≤◌, length}
use Rattle.vfa_walk.specs.Analysis.{Layout, IsLayout}
use Rattle.vfa_walk.specs.Kept.{AreStates}
use Rattle.vfa_walk.proofs.RoundSteps.{IsAfter, left_before}
use Rattle.vfa_walk.proofs.rounds.last_next.Given as goal

abbrev pub invariant-rounds : goal.invariant-rounds
invariant-rounds g l = record {
  after : (y : Layout) → IsLayout l.f y → IsAfter g.V.Values.answers l.f y l.heads l.round;
  states : AreStates g.V.Values.ty g.V.Values.proper l.f l.heads;
  each : length l.heads ≡ length l.fn.order;
  from_one : 1 ≤ l.round;
}

abbrev pub decreases-rounds : goal.decreases-rounds
decreases-rounds g l = left_before g.V.Values.answers l.f l.fn.order l.heads l.round
