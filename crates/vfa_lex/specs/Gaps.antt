-- What lies between tokens: white space and comments.
use Rattle.std.specs.Prelude.{◌≡◌, ◌<◌, ◌⊎◌, ℕ, ◌+◌, true, List, [], ◌∷◌, length, drop, slice_index}
use Rattle.std.specs.Str.{byte}
use Rattle.vfa_ir.specs.Tokens.{is_blank, line_len}
use Rattle.vfa_ir.specs.declared.tokens.Token.{Token}

-- a byte of white space, or a comment: a semicolon and all that follows it on its line
abbrev pub BeginsGap : ℕ → List ℕ → ℕ → Type 0
BeginsGap b rest more = ((is_blank b ≡ true) × (more ≡ 0)) ⊎ ((b ≡ byte ";") × (more ≡ line_len rest))

-- white space and comments lead from the one offset to the other
pub data IsGap (bytes : List ℕ) : ℕ → ℕ → Type 0 where
  none : (at : ℕ) → IsGap bytes at at
  next :
      (at more to : ℕ) → at < length bytes → BeginsGap (slice_index bytes at) (drop (at + 1) bytes) more →
      IsGap bytes (at + 1 + more) to → IsGap bytes at to

-- from the offset on the text is these tokens, and white space and comments before, between and after them
abbrev pub Fill : List ℕ → ℕ → List Token → Type 0
Fill bytes from [] = IsGap bytes from (length bytes)
Fill bytes from (t ∷ rest) = IsGap bytes from t.start × Fill bytes t.end rest
