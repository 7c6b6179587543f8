use Rattle.std.proofs.Common.{◌≡◌}
use Rattle.vfa_ir.specs.Walks.{successors}
use Rattle.vfa_rewrite.specs.Spread.{spread_over}
use Rattle.vfa_rewrite.proofs.spreading.Search.follow_all.Given as goal

abbrev pub invariant-edges : goal.invariant-edges
invariant-edges l = l.self ≡ spread_over (successors l.f l.b.0) l.left l.initial.self l.k
