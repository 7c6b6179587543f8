use Rattle.std.proofs.Common.{◌≡◌, ◌≤◌, length}
use Rattle.vfa_ir.specs.Walks.{successors}
use Rattle.vfa_walk.proofs.Chaining.{AreChainsFrom}
use Rattle.vfa_walk.proofs.chains.chains_of.Given as goal

abbrev pub invariant-edges : goal.invariant-edges
invariant-edges l = record {
  chains : AreChainsFrom l.k (successors l.f l.from.0) l.chains.first.items l.chains.next.items;
  blocks : length l.chains.first.items ≡ l.blocks;
  within : l.k ≤ l.edges;
}
