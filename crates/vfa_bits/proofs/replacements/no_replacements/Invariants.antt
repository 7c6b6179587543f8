use Rattle.std.proofs.Common.{◌≡◌, None, replicate}
use Rattle.vfa_bits.proofs.replacements.no_replacements.Given as goal

abbrev pub invariant-rows : goal.invariant-rows
invariant-rows l = l.table.items ≡ replicate l.counter None
