-- The lexemes of a printed tree: those whose text is read again as the same lexeme.
use Rattle.std.proofs.Common.{◌≡◌, ℕ, List, [], All, IsTrue, Bool, not, codes}
use Rattle.std.specs.List.{list_all}
use Rattle.vfa_ir.specs.declared.syntax.BasicBlock.{BasicBlock}
use Rattle.vfa_ir.specs.Lexemes.{Lexeme, local, global, label, number, word, mark}
use Rattle.vfa_ir.specs.Sentence.{Sentence}
use Rattle.vfa_ir.specs.Spelling as spell
use Rattle.vfa_ir.specs.Tokens.{is_run_byte}
use Rattle.vfa_ir.specs.Words.{is_in, is_number}

pub record IsRunWord (text : List ℕ) : Type 0 where
  pub some : text ≡ [] → ⊥
  pub runs : IsTrue (list_all is_run_byte text)
  pub no_number : IsTrue (not (is_number text))

-- the marks of a printed tree
abbrev pub is_printed_mark : ℕ → Bool
is_printed_mark c = is_in c (codes "()[]{},=")

abbrev pub IsLexed : Lexeme → Type 0
IsLexed (local name) = name ≡ [] → ⊥
IsLexed (global name) = name ≡ [] → ⊥
IsLexed (label name) = name ≡ [] → ⊥
IsLexed (number text) = IsTrue (is_number text)
IsLexed (word text) = IsRunWord text
IsLexed (mark c) = IsTrue (is_printed_mark c)
IsLexed _ = ⊥

pub record IsLexedBlock (b : BasicBlock) : Type 0 where
  pub tokens : All IsLexed (spell.block b)
  pub bare : b.terminator.attached ≡ []

pub record IsLexedTree (s : Sentence) : Type 0 where
  pub header : All IsLexed (spell.header s)
  pub blocks : All IsLexedBlock s.blocks
