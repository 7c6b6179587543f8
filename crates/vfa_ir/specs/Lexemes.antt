-- What the grammar sees of a token: its kind, and its name, word, digits or mark
-- (LLVM Language Reference, "Identifiers").
use Rattle.std.specs.Prelude.{ℕ, List}

pub data Lexeme : Type 0 where
  -- `%name`, `@name` and `name:`, by the bytes of the name
  local : List ℕ → Lexeme
  global : List ℕ → Lexeme
  label : List ℕ → Lexeme
  -- the same where the name is empty, or is digits alone in quotes: it names nothing here
  nameless_local : Lexeme
  nameless_global : Lexeme
  nameless_label : Lexeme
  -- `!run` and `#digits`, by what stands after the sign
  metadata : List ℕ → Lexeme
  group : List ℕ → Lexeme
  -- digits, perhaps after a `-`
  number : List ℕ → Lexeme
  word : List ℕ → Lexeme
  string : Lexeme
  mark : ℕ → Lexeme
  other : Lexeme
