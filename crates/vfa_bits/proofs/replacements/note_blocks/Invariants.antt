use Rattle.std.proofs.Common.{◌≤◌, drop, flat_map, length}
use Rattle.vfa_ir.specs.declared.functions.Block.{Block}
use Rattle.vfa_demand.specs.Masks.{mask_in}
use Rattle.vfa_bits.specs.Noting.{AreNoted}
use Rattle.vfa_bits.proofs.replacements.note_blocks.Given as goal

abbrev pub invariant-loop-number : goal.invariant-loop-number
invariant-loop-number l =
    (l.number ≤ length l.blocks)
    × AreNoted (mask_in l.masks) (flat_map (λ (b : Block). b.insts) (drop l.number l.blocks)) l.initial.table.items l.table.items
