-- What the reader sees of a text.
use Rattle.std.specs.Prelude.{ℕ, List, map}
use Rattle.vfa_ir.specs.Lexemes.{Lexeme, local, global, label, nameless_local, nameless_global, nameless_label, metadata, group, number, word, string, mark, other}
use Rattle.vfa_ir.specs.TokenLexemes.{lexemes, named, written_name}
use Rattle.vfa_read.specs.declared.source.Seen.{Seen}
use Rattle.vfa_read.specs.declared.source.Source.{Source}

abbrev pub seen_lexeme : Seen → Lexeme
seen_lexeme (Seen.Local raw) = named local nameless_local (written_name raw.now)
seen_lexeme (Seen.Global raw) = named global nameless_global (written_name raw.now)
seen_lexeme (Seen.Label raw) = named label nameless_label (written_name raw.now)
seen_lexeme (Seen.Metadata text) = metadata text.now
seen_lexeme (Seen.Group text) = group text.now
seen_lexeme (Seen.Number text) = number text.now
seen_lexeme (Seen.Word text) = word text.now
seen_lexeme Seen.String = string
seen_lexeme (Seen.Mark c) = mark c
seen_lexeme Seen.Other = other

abbrev pub all_of : Source → List Lexeme
all_of s = lexemes s.bytes.now s.tokens.now

-- the line of each token
abbrev pub line_numbers : Source → List ℕ
line_numbers s = map (λ t. t.line) s.tokens.now
