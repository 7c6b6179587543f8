use Rattle.std.proofs.Common.{◌≡◌, drop, map}
use Rattle.vfa_ir.specs.Words.{is_among as among}
use Rattle.vfa_ir.proofs.words.is_among.Given as goal

abbrev pub invariant-words : goal.invariant-words
invariant-words l = among l.text (map (λ w. w.now) (drop l.word-index l.words)) ≡ among l.text (map (λ w. w.now) l.words)
