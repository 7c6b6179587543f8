use Rattle.std.proofs.Common.{◌≡◌, ◌+◌, length, drop, flat_map}
use Rattle.vfa_ir.specs.DefinedNames.{block_results}
use Rattle.vfa_read.proofs.resolution.limits.passes_names.Given as goal

abbrev pub invariant-count : goal.invariant-count
invariant-count l =
    l.room + (length l.parameters + length (flat_map block_results l.blocks))
    ≡ 4096 + length (flat_map block_results (drop l.block-index l.blocks))
