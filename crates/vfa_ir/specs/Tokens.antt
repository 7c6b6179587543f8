-- The tokens of a module's text (LLVM Language Reference, "Identifiers" and "String constants").
use Rattle.std.specs.Prelude.{◌≡◌, ◌<◌, ◌≤◌, ⊤, ℕ, zero, suc, ◌+◌, ◌-◌, ◌==◌, ◌||◌, Bool, false, not, nat_lt, List, [], ◌∷◌, length, take, drop, if◌then◌else◌, Option, Some, None, codes, slice_get, slice_index, slice_range}
use Rattle.std.specs.Char.{is_ascii_alphabetic, is_ascii_digit}
use Rattle.std.specs.List.{prefix_len}
use Rattle.std.specs.Str.{byte}
use Rattle.vfa_ir.specs.Words.{is_in, is_number}
use Rattle.vfa_ir.specs.declared.tokens.Token.{Token}
use Rattle.vfa_ir.specs.declared.tokens.TokenKind.{TokenKind}

-- Bytes

-- space, tab, carriage return, line feed
unfoldable pub is_blank : ℕ → Bool
is_blank b = is_in b (codes " \t\r\n")

-- letters, digits, `-`, `$`, `.` and `_`
unfoldable pub is_run_byte : ℕ → Bool
is_run_byte b = is_ascii_alphabetic b || is_ascii_digit b || is_in b (codes "-$._")

unfoldable pub is_bracket : ℕ → Bool
is_bracket b = is_in b (codes "()[]{}")

-- `( ) [ ] { } , = * < > : !` and the bar
unfoldable pub is_mark : ℕ → Bool
is_mark b = is_bracket b || is_in b (codes ",=*<>:!|")

-- Lengths

-- the longest run at the beginning
abbrev pub run_len : List ℕ → ℕ
run_len = prefix_len is_run_byte

-- a string's bytes after its opening quote, the closing one with them; none where no quote closes it
abbrev pub quoted_len : List ℕ → Option ℕ
quoted_len bs =
    let inner = prefix_len (λ b. not (b == byte "\"")) bs in
    if nat_lt inner (length bs) then Some (inner + 1) else None

-- the run or the string at the beginning; 0 where there is neither
abbrev pub name_len : List ℕ → ℕ
name_len [] = 0
name_len (b ∷ bs) =
    if b == byte "\"" then elim (quoted_len bs) [ None ↦ 0 | Some n ↦ n + 1 ] else run_len (b ∷ bs)

-- the bytes up to the end of the line
abbrev pub line_len : List ℕ → ℕ
line_len = prefix_len (λ b. not (b == byte "\n"))

abbrev pub line_feed : ℕ → ℕ
line_feed b = if b == byte "\n" then 1 else 0

-- how many lines end in the bytes
abbrev pub line_feeds : List ℕ → ℕ
line_feeds [] = 0
line_feeds (b ∷ rest) = line_feed b + line_feeds rest

-- What stands at the beginning of a text: white space or a comment, or a token of a kind. Each has its first byte and
-- this many more.
pub data Piece : Type 0 where
  gap : ℕ → Piece
  token : TokenKind → ℕ → Piece

-- a name of this kind, after its sigil
unfoldable pub after_sigil : TokenKind → List ℕ → Piece
after_sigil kind rest = if name_len rest == 0 then token TokenKind.Other 0 else token kind (name_len rest)

abbrev pub has_colon : ℕ → List ℕ → Bool
has_colon at rest = elim (slice_get rest at) [ None ↦ false | Some b ↦ b == byte ":" ]

-- a run or a string of this kind, or a label where a colon follows directly
unfoldable pub or_label : TokenKind → ℕ → List ℕ → Piece
or_label kind more rest = if has_colon more rest then token TokenKind.Label (more + 1) else token kind more

unfoldable pub quoted : List ℕ → Piece
quoted rest =
    elim (quoted_len rest) [ None ↦ token TokenKind.Other (length rest) | Some n ↦ or_label TokenKind.String n rest ]

unfoldable pub run_of : ℕ → List ℕ → Piece
run_of b rest =
    or_label (if is_number (b ∷ take (run_len rest) rest) then TokenKind.Number else TokenKind.Word) (run_len rest) rest

unfoldable pub meta : List ℕ → Piece
meta rest = if run_len rest == 0 then token TokenKind.Mark 0 else token TokenKind.Meta (run_len rest)

unfoldable pub group : List ℕ → Piece
group rest =
    let digits = prefix_len is_ascii_digit rest in
    if digits == 0 then token TokenKind.Other 0 else token TokenKind.Group digits

-- the table of kinds, by the first byte and what follows it
unfoldable pub piece_of : ℕ → List ℕ → Piece
piece_of b rest =
    if is_blank b then gap 0
    else (if b == byte ";" then gap (line_len rest)
    else (if b == byte "%" then after_sigil TokenKind.Local rest
    else (if b == byte "@" then after_sigil TokenKind.Global rest
    else (if b == byte "!" then meta rest
    else (if b == byte "#" then group rest
    else (if b == byte "\"" then quoted rest
    else (if is_run_byte b then run_of b rest
    else (if is_mark b then token TokenKind.Mark 0
    else token TokenKind.Other 0))))))))

-- Reading

-- The tokens of the bytes, of which so many still belong to the piece before them; the first byte stands at this
-- offset, on this line.
abbrev pub tokens_after : ℕ → ℕ → ℕ → List ℕ → List Token
tokens_after skip place line [] = []
tokens_after (suc skip) place line (b ∷ rest) = tokens_after skip (place + 1) (line + line_feed b) rest
tokens_after zero place line (b ∷ rest) =
    elim (piece_of b rest) [
      | gap more ↦ tokens_after more (place + 1) (line + line_feed b) rest
      | token kind more ↦
          record { kind = kind; start = place; end = place + 1 + more; line = line }
          ∷ tokens_after more (place + 1) (line + line_feed b) rest
    ]

-- the tokens when reading begins at the offset, which stands on the line
abbrev pub tokens_from : List ℕ → ℕ → ℕ → List Token
tokens_from bytes from line = tokens_after 0 from line (drop from bytes)

-- all tokens, lines counted from 1
abbrev pub tokens_of : List ℕ → List Token
tokens_of bytes = tokens_from bytes 0 1

abbrev pub first : List Token → Option Token
first [] = None
first (t ∷ _) = Some t

abbrev pub text_of : List ℕ → Token → List ℕ
text_of bytes t = slice_range bytes t.start t.end

-- the line on which reading goes on after a token
abbrev pub line_after : List ℕ → Token → ℕ
line_after bytes t = t.line + line_feeds (text_of bytes t)

-- Where tokens stand

-- A token that reading from the offset, which stands on the line, comes to: it lies after the offset and in the text,
-- has at least one byte, is on the line that the line feeds before it make, and is of the kind and the length that the
-- table gives for the bytes there.
pub record IsPlaced (bytes : List ℕ) (from line : ℕ) (t : Token) : Type 0 where
  pub after : from ≤ t.start
  pub some : t.start < t.end
  pub within : t.end ≤ length bytes
  pub lines : t.line ≡ line + line_feeds (slice_range bytes from t.start)
  pub piece : piece_of (slice_index bytes t.start) (drop (t.start + 1) bytes) ≡ token t.kind (t.end - (t.start + 1))

-- from the offset on each token begins where the one before it has ended
abbrev pub AreInOrder : ℕ → List Token → Type 0
AreInOrder from [] = ⊤
AreInOrder from (t ∷ rest) = (from ≤ t.start) × AreInOrder t.end rest
