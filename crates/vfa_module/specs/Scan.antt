-- helper: in no public contract
-- A define's text as a scan by bytes sees it: strings and comments are passed over, and each other byte is looked at.
use Rattle.std.specs.Prelude.{◌+◌, ℕ, ◌==◌, ◌&&◌, ◌||◌, Bool, false, not, List, [], ◌∷◌, length, if◌then◌else◌, Option, Some, None, slice_range}
use Rattle.std.specs.List.{prefix_len}
use Rattle.std.specs.Str.{byte}
use Rattle.vfa_ir.specs.Tokens.{is_run_byte, line_feeds, line_len, quoted_len, tokens_from}
use Rattle.vfa_ir.specs.declared.tokens.Token.{Token}
use Rattle.vfa_ir.specs.declared.tokens.TokenKind.{TokenKind}

-- the bytes up to the first quote
abbrev pub before_quote : List ℕ → ℕ
before_quote = prefix_len (λ b. not (b == byte "\""))

-- the bytes of a string after its opening quote; all where no quote closes it
abbrev pub string_length : List ℕ → ℕ
string_length bs = elim (quoted_len bs) [ None ↦ length bs | Some n ↦ n ]

-- How many bytes the scan passes over after this one: those of the string or of the comment that it begins
unfoldable pub passed : ℕ → List ℕ → ℕ
passed b rest = if b == byte "\"" then string_length rest else (if b == byte ";" then line_len rest else 0)

-- the bytes begin with a run or an opening quote
abbrev pub begins_name : List ℕ → Bool
begins_name [] = false
begins_name (b ∷ _) = b == byte "\"" || is_run_byte b

-- after this byte a global name begins
abbrev pub begins_global : ℕ → List ℕ → Bool
begins_global b rest = b == byte "@" && begins_name rest

-- the line of an offset, where the one before it stands on the line
abbrev pub line_on : List ℕ → ℕ → ℕ → ℕ → ℕ
line_on text start line at = line + line_feeds (slice_range text start at)

-- the tokens from an offset on, on its line
abbrev pub tokens_on : List ℕ → ℕ → ℕ → ℕ → List Token
tokens_on text start line at = tokens_from text at (line_on text start line at)

-- a closing brace at the offset, where there is one
abbrev pub brace_at : List ℕ → ℕ → ℕ → Option ℕ → Option Token
brace_at text start line None = None
brace_at text start line (Some at) =
    Some (record { kind = TokenKind.Mark; start = at; end = at + 1; line = line_on text start line at })
