-- The lexemes of a text: what the grammar sees of its tokens.
use Rattle.std.specs.Prelude.{ℕ, ◌-◌, List, [], ◌∷◌, length, map, take, drop, get_or, slice_range, Option, Some, None, ◌==◌, if◌then◌else◌}
use Rattle.std.specs.Str.{byte}
use Rattle.vfa_ir.specs.declared.tokens.Token.{Token}
use Rattle.vfa_ir.specs.declared.tokens.TokenKind.{TokenKind}
use Rattle.vfa_ir.specs.declared.tokens.TokenKind.TheVariants as Kind
use Rattle.vfa_ir.specs.Lexemes.{Lexeme, local, global, label, nameless_local, nameless_global, nameless_label, metadata, group, number, word, string, mark, other}
use Rattle.vfa_ir.specs.Names.{decoded}
use Rattle.vfa_ir.specs.Tokens.{text_of}
use Rattle.vfa_ir.specs.Words.{is_digits}

-- the name that is written so: without quotes it stands for itself; in quotes there is none if it is empty or digits alone
abbrev pub quoted_name : List ℕ → Option (List ℕ)
quoted_name [] = None
quoted_name (c ∷ cs) = if is_digits (c ∷ cs) then None else Some (c ∷ cs)

abbrev pub written_name : List ℕ → Option (List ℕ)
written_name [] = None
written_name (c ∷ cs) = if c == byte "\"" then quoted_name (decoded (take (length cs - 1) cs)) else Some (c ∷ cs)

abbrev pub named : (List ℕ → Lexeme) → Lexeme → Option (List ℕ) → Lexeme
named kind nameless None = nameless
named kind nameless (Some name) = kind name

-- by the kind of the token and its text
abbrev pub lexeme_of : TokenKind → List ℕ → Lexeme
lexeme_of Kind.Local text = named local nameless_local (written_name (drop 1 text))
lexeme_of Kind.Global text = named global nameless_global (written_name (drop 1 text))
lexeme_of Kind.Label text = named label nameless_label (written_name (take (length text - 1) text))
lexeme_of Kind.Meta text = metadata (drop 1 text)
lexeme_of Kind.Group text = group (drop 1 text)
lexeme_of Kind.Number text = number text
lexeme_of Kind.Word text = word text
lexeme_of Kind.String text = string
lexeme_of Kind.Mark text = mark (get_or text 0 0)
lexeme_of Kind.Other text = other

abbrev pub token_lexeme : List ℕ → Token → Lexeme
token_lexeme text t = lexeme_of t.kind (text_of text t)

abbrev pub lexemes : List ℕ → List Token → List Lexeme
lexemes text tokens = map (token_lexeme text) tokens

-- the bytes from the first of these tokens to the last
abbrev pub end_of_last : Token → List Token → ℕ
end_of_last t [] = t.end
end_of_last t (u ∷ rest) = end_of_last u rest

abbrev pub bytes_between : List ℕ → List Token → List ℕ
bytes_between text [] = []
bytes_between text (t ∷ rest) = slice_range text t.start (end_of_last t rest)
