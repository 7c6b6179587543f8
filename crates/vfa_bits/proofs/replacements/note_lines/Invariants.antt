use Rattle.std.proofs.Common.{◌≤◌, drop, length}
use Rattle.vfa_demand.specs.Masks.{mask_in}
use Rattle.vfa_bits.specs.Noting.{AreNoted}
use Rattle.vfa_bits.proofs.replacements.note_lines.Given as goal

abbrev pub invariant-loop-place : goal.invariant-loop-place
invariant-loop-place l = (l.place ≤ length l.insts) × AreNoted (mask_in l.masks) (drop l.place l.insts) l.initial.table.items l.table.items
