-- Which function a text reads as, and why a text reads as none.
use Rattle.std.specs.Prelude.{◌≡◌, ◌<◌, ℕ, suc, List, [], ◌∷◌, ◌++◌, map, length, take, drop, get_or, nat_lt, Option, Some, None, ◌⊎◌, if◌then◌else◌}
use Rattle.std.specs.List.{list_any}
use Rattle.vfa_ir.specs.declared.functions.Function.{Function}
use Rattle.vfa_ir.specs.declared.functions.Lines.{Lines}
use Rattle.vfa_ir.specs.declared.reasons.Kind.{Kind}
use Rattle.vfa_ir.specs.declared.reasons.Outside.{Outside}
use Rattle.vfa_ir.specs.declared.syntax.TerminatorKind.{TerminatorKind}
use Rattle.vfa_ir.specs.declared.tokens.Token.{Token}
use Rattle.vfa_ir.specs.Grammar.{FitsSentence}
use Rattle.vfa_ir.specs.Lexemes.{Lexeme}
use Rattle.vfa_ir.specs.Limits.{most_blocks, most_cases, most_names}
use Rattle.vfa_ir.specs.DefinedNames.{value_names, duplicate_of, unknown_of}
use Rattle.vfa_ir.specs.Resolution.{function_of}
use Rattle.vfa_ir.specs.Sentence.{Sentence}
use Rattle.vfa_ir.specs.Spelling.{spelling, header}
use Rattle.vfa_ir.specs.TextLines.{lines_of}
use Rattle.vfa_ir.specs.Tokens.{tokens_of}
use Rattle.vfa_ir.specs.TokenLexemes.{lexemes, bytes_between}

-- the lexemes are a sentence: some tree of the profile is spelled so
pub record IsSentence (found : List Lexeme) (s : Sentence) : Type 0 where
  pub fits : FitsSentence s
  pub spelled : spelling s ≡ found

-- the bytes of a sentence's tail, where the text has these tokens
abbrev pub tail_bytes : List ℕ → List Token → Sentence → List ℕ
tail_bytes text tokens s = bytes_between text (take (length s.tail) (drop (length (header s)) tokens))

-- The text, which has these tokens, is a sentence, each name is defined once, each used name is defined, f is its
-- function with ids in text order, and lines are its lines.
pub record ReadsTokens (text : List ℕ) (tokens : List Token) (f : Function) (lines : Lines) : Type 0 where
  pub sentence : Sentence
  pub is : IsSentence (lexemes text tokens) sentence
  pub distinct : duplicate_of sentence ≡ None
  pub known : unknown_of sentence ≡ None
  pub function : function_of sentence (tail_bytes text tokens sentence) ≡ f
  pub places : lines_of sentence (map (λ t. t.line) tokens) ≡ lines

-- A text reads as a function: it does by its own tokens.
abbrev pub Reads : List ℕ → Function → Lines → Type 0
Reads text f lines = ReadsTokens text (tokens_of text) f lines

-- A function fits the profile: some text reads as it.
pub record Fit (f : Function) : Type 0 where
  pub text : List ℕ
  pub lines : Lines
  pub reads : Reads text f lines

-- The first limit that is passed: of parameters and results, then of blocks, then of the cases of each switch.
abbrev pub cases_of : TerminatorKind → ℕ
cases_of (TerminatorKind.Switch _ _ _ cases) = length cases
cases_of _ = 0

abbrev pub too_many : Sentence → Option Kind
too_many s =
    if nat_lt most_names (length (value_names s)) then Some Kind.Names
    else if nat_lt most_blocks (length s.blocks) then Some Kind.Blocks
    else if list_any (λ b. nat_lt most_cases (cases_of b.terminator.kind)) s.blocks then Some Kind.Cases
    else None

-- some sentence begins with these lexemes
pub record BeginsSentence (prefix : List Lexeme) : Type 0 where
  pub sentence : Sentence
  pub rest : List Lexeme
  pub is : IsSentence (prefix ++ rest) sentence

-- The line at which a text stops being a sentence: that of the first token at which the tokens so far begin none; or,
-- where all tokens together begin one but are none, that of the last token, or 1 where there is no token.
pub record StopsAt (found : List Lexeme) (place : ℕ) : Type 0 where
  pub within : place < length found
  pub begins : BeginsSentence (take place found)
  pub stops : BeginsSentence (take (suc place) found) → ⊥

pub record IsUnfinished (found : List Lexeme) : Type 0 where
  pub begins : BeginsSentence found
  pub unfinished : (s : Sentence) → IsSentence found s → ⊥

abbrev pub last_line : List Token → ℕ
last_line [] = 1
last_line (t ∷ []) = t.line
last_line (t ∷ u ∷ rest) = last_line (u ∷ rest)

abbrev pub line_at : List Token → ℕ → ℕ
line_at tokens place = get_or (map (λ t. t.line) tokens) place 0

abbrev pub IsShape : List ℕ → List Token → ℕ → Type 0
IsShape text tokens line =
    ((place : ℕ) × StopsAt (lexemes text tokens) place × (line ≡ line_at tokens place))
    ⊎ (IsUnfinished (lexemes text tokens) × (line ≡ last_line tokens))

-- The text is a sentence that passes a limit first here; that keeps the limits and defines this name a second time
-- first; that does neither and uses this name first without its definition.
pub record IsTooMany (text : List ℕ) (tokens : List Token) (kind : Kind) : Type 0 where
  pub sentence : Sentence
  pub is : IsSentence (lexemes text tokens) sentence
  pub passed : too_many sentence ≡ Some kind

pub record IsDuplicate (text : List ℕ) (tokens : List Token) (name : List ℕ) : Type 0 where
  pub sentence : Sentence
  pub is : IsSentence (lexemes text tokens) sentence
  pub kept : too_many sentence ≡ None
  pub repeated : duplicate_of sentence ≡ Some name

pub record IsUnknown (text : List ℕ) (tokens : List Token) (name : List ℕ) : Type 0 where
  pub sentence : Sentence
  pub is : IsSentence (lexemes text tokens) sentence
  pub kept : too_many sentence ≡ None
  pub distinct : duplicate_of sentence ≡ None
  pub unknown : unknown_of sentence ≡ Some name

-- The text reads as the function within the limits.
pub record IsAccepted (text : List ℕ) (tokens : List Token) (f : Function) (lines : Lines) : Type 0 where
  pub reads : ReadsTokens text tokens f lines
  pub kept : too_many reads.sentence ≡ None

-- The reason why it does not; the other reasons are no matter of the text.
abbrev pub IsReason : List ℕ → List Token → Outside → Type 0
IsReason text tokens (Outside.Shape line) = IsShape text tokens line
IsReason text tokens (Outside.TooMany kind) = IsTooMany text tokens kind
IsReason text tokens (Outside.Duplicate name) = IsDuplicate text tokens name
IsReason text tokens (Outside.Unknown name) = IsUnknown text tokens name
IsReason text tokens _ = ⊥
