use Rattle.std.proofs.Common.{◌≡◌, take}
use Rattle.vfa_bits.proofs.copies.copied_words.Given as goal

abbrev pub invariant-each : goal.invariant-each
invariant-each l = l.copy.items ≡ take l.word-index l.word-items
