use Rattle.std.proofs.Common.{◌≡◌, ◌++◌, drop, flat_map, length}
use Rattle.vfa_ir.specs.DefinedNames.{block_uses}
use Rattle.vfa_ir.specs.Resolution.{block_calls, blocks_of}
use Rattle.vfa_read.specs.Resolving.{unknown_in}
use Rattle.vfa_read.proofs.resolution.table.SymbolTable.basic_blocks.Given as goal

abbrev pub invariant-each : goal.invariant-each
invariant-each l =
    (unknown_in l.self (flat_map block_uses (drop l.block-index l.blocks)) ≡ unknown_in l.self (flat_map block_uses l.blocks))
    × (l.list.items ++ blocks_of l.self (length l.calls.items) (drop l.block-index l.blocks) ≡ blocks_of l.self (length l.initial.calls.items) l.blocks)
    × (l.calls.items ++ flat_map (block_calls l.self) (drop l.block-index l.blocks) ≡ l.initial.calls.items ++ flat_map (block_calls l.self) l.blocks)
