use Rattle.std.proofs.Common.{◌≡◌, ◌++◌, drop, length, map}
use Rattle.vfa_check.specs.Items.{item_count}
use Rattle.vfa_rewrite.proofs.again.no_lines.Given as goal

abbrev pub invariant-all : goal.invariant-all
invariant-all l = map item_count l.f.blocks ≡ map length l.of.items ++ map item_count (drop l.block-index l.f.blocks)
