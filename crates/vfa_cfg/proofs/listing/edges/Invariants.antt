use Rattle.std.proofs.Common.{◌≡◌, ◌++◌, drop}
use Rattle.vfa_cfg.specs.Edges.{edges_from, edges_of}
use Rattle.vfa_cfg.proofs.listing.edges.Given as goal

abbrev pub invariant-each : goal.invariant-each
invariant-each l = (l.from ≡ l.block-index) × (edges_of l.f ≡ l.all.items ++ edges_from l.from (drop l.block-index l.f.blocks))
