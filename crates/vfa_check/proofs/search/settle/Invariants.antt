use Rattle.vfa_ir.specs.Walks.{successors}
use Rattle.vfa_check.specs.Flow.{IsFlow, weight}
use Rattle.vfa_check.proofs.search.settle.Given as goal

abbrev pub invariant-rounds : goal.invariant-rounds
invariant-rounds l = IsFlow l.f (successors l.f) l.flow

abbrev pub decreases-rounds : goal.decreases-rounds
decreases-rounds l = weight l.flow.entries.items
