use Rattle.std.proofs.Common.{◌≡◌, ◌<◌, ℕ, All, [], get_or, length, take}
use Rattle.vfa_cfg.specs.Edges.{edges_of}
use Rattle.vfa_check.specs.Predecessors.{times}
use Rattle.vfa_check.proofs.EdgeCounts.{joined}
use Rattle.vfa_check.proofs.predecessors.predecessors.Given as goal

abbrev pub invariant-edges : goal.invariant-edges
invariant-edges l = record {
  each : length l.all.items ≡ length l.f.blocks;
  counted : (to from : ℕ) → to < length l.f.blocks → times from (get_or l.all.items to []) ≡ joined from to (take l.edge-index (edges_of l.f));
  within : (to : ℕ) → All (λ p. p.0 < length l.f.blocks) (get_or l.all.items to []);
}
