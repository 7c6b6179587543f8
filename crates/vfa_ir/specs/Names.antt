-- The bytes that a name stands for (LLVM Language Reference, "Identifiers").
use Rattle.std.specs.Prelude.{ℕ, ◌+◌, ◌-◌, ◌*◌, ◌==◌, ◌&&◌, nat_lt, List, [], ◌∷◌, length, take, drop, if◌then◌else◌}
use Rattle.std.specs.Char.{is_ascii_digit, is_ascii_hexdigit}
use Rattle.std.specs.Str.{byte}
use Rattle.vfa_ir.specs.Tokens.{text_of}
use Rattle.vfa_ir.specs.declared.tokens.Token.{Token}
use Rattle.vfa_ir.specs.declared.tokens.TokenKind.{TokenKind}

-- the value of a hexadecimal digit: 11 of `B` and of `b`
unfoldable pub hex_value : ℕ → ℕ
hex_value b = if is_ascii_digit b then b - byte "0" else (if nat_lt b (byte "a") then b - (byte "A" - 10) else b - (byte "a" - 10))

-- What a text between quotes stands for: `\` and two hexadecimal digits for a byte, `\\` for one backslash, and any
-- other `\` for itself.
abbrev pub decoded : List ℕ → List ℕ
decoded [] = []
decoded (b ∷ []) = b ∷ []
decoded (b ∷ c ∷ []) = if b == byte "\\" && c == byte "\\" then byte "\\" ∷ [] else b ∷ c ∷ []
decoded (b ∷ c ∷ d ∷ rest) =
    if b == byte "\\" && c == byte "\\" then byte "\\" ∷ decoded (d ∷ rest)
    else (if b == byte "\\" && is_ascii_hexdigit c && is_ascii_hexdigit d then (16 * hex_value c + hex_value d) ∷ decoded rest
    else b ∷ decoded (c ∷ d ∷ rest))

-- what a run or a string stands for
abbrev pub bytes_of_name : List ℕ → List ℕ
bytes_of_name [] = []
bytes_of_name (b ∷ rest) = if b == byte "\"" then decoded (take (length rest - 1) rest) else b ∷ rest

-- the run or the string of a token, without its sigil or its colon
abbrev pub bare_text : List ℕ → Token → List ℕ
bare_text bytes t =
    elim t.kind [
      | TokenKind.Local ↦ drop 1 (text_of bytes t)
      | TokenKind.Global ↦ drop 1 (text_of bytes t)
      | TokenKind.Meta ↦ drop 1 (text_of bytes t)
      | TokenKind.Label ↦ take (length (text_of bytes t) - 1) (text_of bytes t)
      | _ ↦ text_of bytes t
    ]

abbrev pub token_name : List ℕ → Token → List ℕ
token_name bytes t = bytes_of_name (bare_text bytes t)
