use Rattle.std.proofs.Common.{◌-◌, length}
use Rattle.vfa_ir.specs.Walks.{successors}
use Rattle.vfa_check.proofs.Sending.{IsSending}
use Rattle.vfa_check.proofs.search.send_along.Given as goal

abbrev pub invariant-edges : goal.invariant-edges
invariant-edges l = IsSending l.f l.from.0 l.k l.initial.flow l.flow l.lost

abbrev pub decreases-edges : goal.decreases-edges
decreases-edges l = length (successors l.f l.from.0) - l.k
