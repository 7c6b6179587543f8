-- A text while it is written, token by token.
use Rattle.std.specs.Prelude.{ℕ, Bool, false, List, [], ◌∷◌, ◌++◌}
use Rattle.vfa_ir.specs.Lexemes.{Lexeme}
use Rattle.vfa_print.specs.Layout.{blank_between, takes_blank_before, takes_blank_after, lexeme_text}

-- the bytes so far, and whether what follows them takes a blank
pub record Draft : Type 0 where
  pub text : List ℕ
  pub blank_due : Bool

-- one more token
unfoldable pub with_token : Draft → Lexeme → Draft
with_token d l = record {
  text = d.text ++ (blank_between d.blank_due (takes_blank_before l) ++ lexeme_text l);
  blank_due = takes_blank_after l;
}

-- more tokens
abbrev pub with_tokens : Draft → List Lexeme → Draft
with_tokens d [] = d
with_tokens d (l ∷ rest) = with_tokens (with_token d l) rest

-- more bytes, after which no blank is due
abbrev pub with_bytes : Draft → List ℕ → Draft
with_bytes d bytes = record { text = d.text ++ bytes; blank_due = false }
