-- The split of a module, computed: the defines of its functions, and the bytes between them. `Defines` says the same in
-- the words of the text.
use Rattle.std.specs.Prelude.{◌≡◌, ◌<◌, ℕ, zero, suc, ◌+◌, ◌-◌, ◌==◌, ◌&&◌, ◌||◌, Bool, true, false, nat_eq, nat_lt, List, [], ◌∷◌, ◌++◌, length, drop, codes, position, if◌then◌else◌, Option, Some, None, Result, Ok, Err, slice_get, slice_index}
use Rattle.std.specs.List.{prefix_len, starts_with}
use Rattle.std.specs.Str.{byte}
use Rattle.vfa_ir.specs.Tokens.{is_blank, tokens_from}
use Rattle.vfa_ir.specs.declared.tokens.Token.{Token}
use Rattle.vfa_ir.specs.declared.tokens.TokenKind.{TokenKind}
use Rattle.vfa_module.specs.declared.items.Item.{Item}
use Rattle.vfa_module.specs.declared.items.SplitFault.{SplitFault}

-- Bytes

abbrev pub is_space_or_tab : ℕ → Bool
is_space_or_tab b = b == byte " " || b == byte "\t"

abbrev pub is_line_feed : ℕ → Bool
is_line_feed b = b == byte "\n"

-- Lines

-- the spaces and tabs at the beginning
abbrev pub indent : List ℕ → ℕ
indent = prefix_len is_space_or_tab

abbrev pub has_blank : ℕ → List ℕ → Bool
has_blank at bs = elim (slice_get bs at) [ None ↦ false | Some b ↦ is_blank b ]

-- the word `define` and white space
unfoldable pub begins_define : List ℕ → Bool
begins_define bs = starts_with nat_eq bs (codes "define") && has_blank 6 bs

-- the bytes of the first line, its line feed with them
abbrev pub line_bytes : List ℕ → ℕ
line_bytes bs = elim (position is_line_feed bs) [ None ↦ length bs | Some n ↦ n + 1 ]

-- where the line after the one of this offset begins
abbrev pub next_line : List ℕ → ℕ → ℕ
next_line text at = at + line_bytes (drop at text)

-- the offset of the word `define` where it is the first on the line that begins at the offset, and white space follows
abbrev pub define_of_line : List ℕ → ℕ → Option ℕ
define_of_line text at =
    let start = at + indent (drop at text) in if begins_define (drop start text) then Some start else None

-- white space or a comment, up to the end of the line
abbrev pub is_clear : List ℕ → Bool
is_clear [] = true
is_clear (b ∷ rest) = is_line_feed b || b == byte ";" || (is_blank b && is_clear rest)

-- Braces

-- The byte that a token begins with. A token that begins with a bracket is that bracket.
abbrev pub first_byte : List ℕ → Token → ℕ
first_byte text t = slice_index text t.start

abbrev pub is_global : TokenKind → Bool
is_global TokenKind.Global = true
is_global _ = false

-- how many parentheses are open after the byte; a closing one without an open one counts for nothing
abbrev pub parens_after : ℕ → ℕ → ℕ
parens_after parens b =
    if b == byte "(" then parens + 1 else (if b == byte ")" then parens - 1 else parens)

-- how many inner braces are open after the byte
abbrev pub braces_after : ℕ → ℕ → ℕ
braces_after braces b = if b == byte "{" then braces + 1 else (if b == byte "}" then braces - 1 else braces)

-- after a global name the first opening brace outside of parentheses opens the body
unfoldable pub opens_body : Bool → ℕ → ℕ → Bool
opens_body named parens b = named && parens == 0 && b == byte "{"

-- the first closing brace that has no inner one to close closes the body
unfoldable pub closes_body : ℕ → ℕ → Bool
closes_body braces b = braces == 0 && b == byte "}"

-- the brace that closes the body, from a place in the body on at which so many inner braces are open
abbrev pub closing_of_body : List ℕ → ℕ → List Token → Option Token
closing_of_body text braces [] = None
closing_of_body text braces (t ∷ rest) =
    if closes_body braces (first_byte text t) then Some t
    else closing_of_body text (braces_after braces (first_byte text t)) rest

-- the same from a place in the header on, after a global name or not, inside so many parentheses
abbrev pub closing_of_define : List ℕ → Bool → ℕ → List Token → Option Token
closing_of_define text named parens [] = None
closing_of_define text named parens (t ∷ rest) =
    if opens_body named parens (first_byte text t) then closing_of_body text 0 rest
    else closing_of_define text (named || is_global t.kind) (parens_after parens (first_byte text t)) rest

-- the brace that closes the define whose word stands at the offset, on the line
abbrev pub closing_brace : List ℕ → ℕ → ℕ → Option Token
closing_brace text start line = closing_of_define text false 0 (tokens_from text start line)

-- Defines

pub record Extent : Type 0 where
  pub start : ℕ
  pub end : ℕ
  pub line : ℕ

abbrev pub with_first : Extent → Result (List Extent) SplitFault → Result (List Extent) SplitFault
with_first d (Ok rest) = Ok (d ∷ rest)
with_first d (Err fault) = Err fault

-- a define from the word at an offset to this brace, and what comes after it; or the failure
abbrev pub define_then :
    List ℕ → ℕ → ℕ → Option Token → (Token → Result (List Extent) SplitFault) → Result (List Extent) SplitFault
define_then text start line None after = Err (SplitFault.Unclosed start)
define_then text start line (Some t) after =
    if is_clear (drop t.end text) then with_first (record { start = start; end = t.end; line = line }) (after t)
    else Err (SplitFault.BadLine t.line)

-- The defines of a text from a place on, or the first failure. So many of the bytes that are left are passed over, to
-- the beginning of the line of this number.
abbrev pub defines_after : List ℕ → ℕ → ℕ → ℕ → List ℕ → Result (List Extent) SplitFault
defines_after text skip place line [] = Ok []
defines_after text (suc skip) place line (_ ∷ left) = defines_after text skip (place + 1) line left
defines_after text zero place line (_ ∷ left) =
    elim (define_of_line text place) [
      | None ↦ defines_after text (next_line text place - (place + 1)) (place + 1) (line + 1) left
      | Some start ↦
          define_then text start line (closing_brace text start line)
          (λ t. defines_after text (next_line text t.end - (place + 1)) (place + 1) (t.line + 1) left)
    ]

abbrev pub defines_from : List ℕ → ℕ → ℕ → Result (List Extent) SplitFault
defines_from text at line = defines_after text 0 at line (drop at text)

-- Items

-- the bytes between two offsets, where there are any
abbrev pub lines_between : ℕ → ℕ → List Item
lines_between start end = if nat_lt start end then Item.Lines start end ∷ [] else []

-- the defines and the bytes between them, from the offset on to the end
abbrev pub items_between : ℕ → ℕ → List Extent → List Item
items_between from end [] = lines_between from end
items_between from end (d ∷ rest) =
    lines_between from d.start ++ (Item.Define d.start d.end d.line ∷ items_between d.end end rest)

-- all items of a text, or its first failure
abbrev pub split_of : List ℕ → Result (List Item) SplitFault
split_of text =
    elim (defines_from text 0 1) [ Ok defines ↦ Ok (items_between 0 (length text) defines) | Err fault ↦ Err fault ]

-- out of memory, or this
abbrev pub MemoryOr : SplitFault → Type 0 → Type 0
MemoryOr SplitFault.Memory P = Unit {0}
MemoryOr _ P = P

abbrev pub start_of : Item → ℕ
start_of (Item.Lines start _) = start
start_of (Item.Define start _ _) = start

abbrev pub end_of : Item → ℕ
end_of (Item.Lines _ end) = end
end_of (Item.Define _ end _) = end

-- the items have the bytes between two offsets in order, each at least one
abbrev pub Cover : ℕ → ℕ → List Item → Type 0
Cover from to [] = from ≡ to
Cover from to (i ∷ rest) = (start_of i ≡ from) × (from < end_of i) × Cover (end_of i) to rest
