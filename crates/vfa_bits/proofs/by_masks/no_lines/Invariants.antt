use Rattle.std.proofs.Common.{◌≡◌, length, map, take}
use Rattle.vfa_check.specs.Items.{item_count}
use Rattle.vfa_bits.proofs.by_masks.no_lines.Given as goal

abbrev pub invariant-each : goal.invariant-each
invariant-each l = map length l.all.items ≡ map item_count (take l.block-index l.blocks)
