-- The defines of a module and its split, in the words of the text: which brace closes a define, where a define begins,
-- what a text splits into, and where it fails.
use Rattle.std.specs.Prelude.{◌≡◌, ◌<◌, ◌≤◌, ◌⊎◌, ◌≢◌, ⊤, IsSomeAnd, ℕ, suc, ◌+◌, ◌-◌, ◌==◌, true, false, List, [], ◌∷◌, ◌++◌, length, take, drop, count_by, Some, slice_get, slice_index}
use Rattle.std.specs.List.{AllByRecursion}
use Rattle.std.specs.Str.{byte}
use Rattle.vfa_ir.specs.Tokens.{is_blank, line_feeds, tokens_from}
use Rattle.vfa_ir.specs.declared.tokens.Token.{Token}
use Rattle.vfa_module.specs.declared.items.Item.{Item}
use Rattle.vfa_module.specs.declared.items.SplitFault.{SplitFault}
use Rattle.vfa_module.specs.Split.{Cover, begins_define, first_byte, is_global, is_space_or_tab}

-- Braces, as places of tokens

-- the first place with a property
pub record IsFirst (P : ℕ → Type 0) (place : ℕ) : Type 0 where
  pub has : P place
  pub none_before : (q : ℕ) → q < place → ¬ P q

-- the tokens from one place up to another
abbrev pub tokens_between : List Token → ℕ → ℕ → List Token
tokens_between ts from to = drop from (take to ts)

-- how many of the tokens are this bracket
abbrev pub bracket_count : List ℕ → ℕ → List Token → ℕ
bracket_count text bracket ts = count_by (λ t. first_byte text t == bracket) ts

abbrev pub global_count : List Token → ℕ
global_count ts = count_by (λ t. is_global t.kind) ts

-- A place outside of parentheses: from no earlier place up to it are more opened than closed. So a closing one
-- without an open one counts for nothing: `) (` leaves one open.
abbrev pub IsOutside : List ℕ → List Token → ℕ → Type 0
IsOutside text ts place =
    (q : ℕ) →
    bracket_count text (byte "(") (tokens_between ts q place) ≤ bracket_count text (byte ")") (tokens_between ts q place)

-- an opening brace after a global name and outside of parentheses
pub record CanOpenBody (text : List ℕ) (ts : List Token) (place : ℕ) : Type 0 where
  pub brace : IsSomeAnd (slice_get ts place) (λ t. first_byte text t ≡ byte "{")
  pub named : 0 < global_count (tokens_between ts 0 place)
  pub outside : IsOutside text ts place

-- from the opening place up to this one, both with them, as many braces close as open
pub record AreLevel (text : List ℕ) (ts : List Token) (opening place : ℕ) : Type 0 where
  pub after : opening ≤ place
  pub same :
      bracket_count text (byte "{") (tokens_between ts opening (suc place)) ≡
      bracket_count text (byte "}") (tokens_between ts opening (suc place))

-- The token that closes a define, among the tokens from the word `define` on: the first opening brace after a global
-- name and outside of parentheses opens the body, and at the first place from there on at which the braces are level
-- the define is closed. In `define { i8 } @f({ i8 } %p) { { } }` the third `{` opens, and the last `}` closes.
pub record Closes (text : List ℕ) (ts : List Token) (t : Token) : Type 0 where
  pub opening : ℕ
  pub closing : ℕ
  pub opens : IsFirst (CanOpenBody text ts) opening
  pub level : IsFirst (AreLevel text ts opening) closing
  pub token : slice_get ts closing ≡ Some t

-- Lines

-- a line begins at the offset
abbrev pub BeginsLine : List ℕ → ℕ → Type 0
BeginsLine text at = (at ≡ 0) ⊎ (slice_index text (at - 1) ≡ byte "\n")

-- The word `define` with white space after it, which begins its line: spaces and tabs alone are before it there.
pub record BeginsDefine (text : List ℕ) (start : ℕ) : Type 0 where
  pub line : ℕ
  pub begins : BeginsLine text line
  pub before : line ≤ start
  pub blanks : (at : ℕ) → line ≤ at → at < start → is_space_or_tab (slice_index text at) ≡ true
  pub word : begins_define (drop start text) ≡ true

-- something other than white space or a comment comes before the line ends: a byte after white space of the line
pub record HasMore (left : List ℕ) : Type 0 where
  pub blanks : List ℕ
  pub other : ℕ
  pub rest : List ℕ
  pub parts : left ≡ blanks ++ other ∷ rest
  pub on_line : AllByRecursion (λ b. (is_blank b ≡ true) × (b ≢ byte "\n")) blanks
  pub no_blank : is_blank other ≡ false
  pub no_comment : other ≢ byte ";"

-- Defines

-- the number of the line of an offset
abbrev pub line_at : List ℕ → ℕ → ℕ
line_at text at = 1 + line_feeds (take at text)

-- the tokens from an offset on
abbrev pub tokens_at : List ℕ → ℕ → List Token
tokens_at text at = tokens_from text at (line_at text at)

-- A define from the one offset to the other: it begins its line with the word `define`, is named, ends with the brace
-- that closes it, and leaves its last line clear.
pub record IsDefine (text : List ℕ) (start end line : ℕ) : Type 0 where
  pub begins : BeginsDefine text start
  pub lines : line ≡ line_at text start
  pub brace : Token
  pub closes : Closes text (tokens_at text start) brace
  pub ends : brace.end ≡ end
  pub last : slice_index text (end - 1) ≡ byte "}"
  pub clear : ¬ HasMore (drop end text)

-- a global name between the two offsets, as a token that is read from the first on
pub record HasName (text : List ℕ) (start end : ℕ) : Type 0 where
  pub place : ℕ
  pub name : Token
  pub token : slice_get (tokens_at text start) place ≡ Some name
  pub kind : is_global name.kind ≡ true
  pub after : start ≤ name.start
  pub before : name.end < end

-- no define begins between the two offsets
abbrev pub HasNoDefine : List ℕ → ℕ → ℕ → Type 0
HasNoDefine text start end = (at : ℕ) → start ≤ at → at < end → ¬ BeginsDefine text at

abbrev pub IsPart : List ℕ → Item → Type 0
IsPart text (Item.Lines start end) = HasNoDefine text start end
IsPart text (Item.Define start end line) = IsDefine text start end line

-- Splits

-- no two items of lines stand side by side
abbrev pub AreApart : List Item → Type 0
AreApart [] = ⊤
AreApart (Item.Define _ _ _ ∷ rest) = AreApart rest
AreApart (Item.Lines _ _ ∷ []) = ⊤
AreApart (Item.Lines _ _ ∷ Item.Lines _ _ ∷ rest) = ⊥
AreApart (Item.Lines _ _ ∷ Item.Define _ _ _ ∷ rest) = AreApart rest

-- a text is these items
pub record IsSplit (text : List ℕ) (items : List Item) : Type 0 where
  pub cover : Cover 0 (length text) items
  pub parts : AllByRecursion (IsPart text) items
  pub apart : AreApart items

-- the text before an offset splits, and at the offset the next define begins
pub record IsNextDefine (text : List ℕ) (start : ℕ) : Type 0 where
  pub items : List Item
  pub cover : Cover 0 start items
  pub parts : AllByRecursion (IsPart text) items
  pub begins : BeginsDefine text start

-- the define at the offset is the first that fails, and no token closes it
pub record IsUnclosed (text : List ℕ) (start : ℕ) : Type 0 where
  pub next : IsNextDefine text start
  pub open_ended : (t : Token) → ¬ Closes text (tokens_at text start) t

-- the first define that fails is closed on this line, and something follows there
pub record IsBadLine (text : List ℕ) (line : ℕ) : Type 0 where
  pub start : ℕ
  pub next : IsNextDefine text start
  pub brace : Token
  pub closes : Closes text (tokens_at text start) brace
  pub more : HasMore (drop brace.end text)
  pub on_line : brace.line ≡ line

-- why a text does not split; out of memory may come at any text
abbrev pub Fails : List ℕ → SplitFault → Type 0
Fails text (SplitFault.Unclosed start) = IsUnclosed text start
Fails text (SplitFault.BadLine line) = IsBadLine text line
Fails text SplitFault.Memory = ⊤

-- a closing brace that reading from the offset, which stands on the line, comes to
pub record IsBrace (text : List ℕ) (from line : ℕ) (t : Token) : Type 0 where
  pub after : from ≤ t.start
  pub byte_is : slice_index text t.start ≡ byte "}"
  pub one : t.end ≡ t.start + 1
  pub within : t.end ≤ length text
  pub lines : t.line + line_feeds (take from text) ≡ line + line_feeds (take t.start text)
