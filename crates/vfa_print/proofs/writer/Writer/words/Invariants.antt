use Rattle.std.proofs.Common.{◌≡◌, drop, map}
use Rattle.vfa_ir.specs.Lexemes.{word}
use Rattle.vfa_print.specs.Writing.{with_tokens}
use Rattle.vfa_print.proofs.writer.Writer.words.Given as goal

abbrev pub invariant-words : goal.invariant-words
invariant-words l = with_tokens l.initial.self (map word l.words) ≡ with_tokens l.self (map word (drop l.word-index l.words))
