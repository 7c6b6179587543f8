use Rattle.std.proofs.Common.{◌≡◌, ◌++◌, drop, flat_map}
use Rattle.vfa_ir.specs.Resolution.{block_values}
use Rattle.vfa_read.proofs.resolution.values.values_of.Given as goal

abbrev pub invariant-each : goal.invariant-each
invariant-each l = l.values.items ++ flat_map block_values (drop l.block-index l.blocks) ≡ l.initial.values.items ++ flat_map block_values l.blocks
