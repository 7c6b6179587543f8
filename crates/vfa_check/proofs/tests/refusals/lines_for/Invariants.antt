use Rattle.std.proofs.Common.{◌≡◌, length, map, take}
use Rattle.vfa_check.specs.Items.{item_count}
use Rattle.vfa_check.proofs.tests.refusals.lines_for.Given as goal

abbrev pub invariant-each : goal.invariant-each
invariant-each l = map length l.of.items ≡ map item_count (take l.block-index l.f.blocks)
