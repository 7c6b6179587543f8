-- How a function is laid out: the text of each token, and the lines on which the tokens of each production stand
-- (LLVM Language Reference, "Identifiers", "Functions" and "Instruction Reference").
use Rattle.std.specs.Prelude.{ℕ, ◌+◌, ◌-◌, ◌/◌, ◌%◌, ◌==◌, ◌&&◌, ◌||◌, Bool, true, false, not, nat_lt, List, [], ◌∷◌, ◌++◌, flat_map, if◌then◌else◌, Option, Some, None, codes}
use Rattle.std.specs.Char.{is_ascii_digit}
use Rattle.std.specs.List.{list_all}
use Rattle.std.specs.Str.{byte}
use Rattle.vfa_ir.specs.declared.syntax.BasicBlock.{BasicBlock}
use Rattle.vfa_ir.specs.declared.syntax.TerminatorKind.{TerminatorKind}
use Rattle.vfa_ir.specs.Lexemes.{Lexeme, local, global, label, nameless_local, nameless_global, nameless_label, metadata, group, number, word, string, mark, other}
use Rattle.vfa_ir.specs.Sentence.{Sentence}
use Rattle.vfa_ir.specs.Spelling.{open_square, close_square, comma, typed, target, switch_case, terminator_kind, phi, instruction, header}
use Rattle.vfa_ir.specs.Tokens.{is_run_byte}

-- Names

-- A name stands as it is where it is a run that begins with no digit, or digits alone.
abbrev pub begins_with_digit : List ℕ → Bool
begins_with_digit [] = false
begins_with_digit (b ∷ _) = is_ascii_digit b

abbrev pub is_plain : List ℕ → Bool
is_plain name = list_all is_run_byte name && (not (begins_with_digit name) || list_all is_ascii_digit name)

-- In quotes, the quote, the backslash and bytes outside 32 to 126 are `\` and two hexadecimal digits.
abbrev pub hex_digit : ℕ → ℕ
hex_digit n = if nat_lt n 10 then byte "0" + n else byte "A" - 10 + n

unfoldable pub is_escaped : ℕ → Bool
is_escaped b = b == byte "\"" || b == byte "\\" || nat_lt b 32 || (nat_lt 126 b && nat_lt b 256)

abbrev pub byte_text : ℕ → List ℕ
byte_text b = if is_escaped b then byte "\\" ∷ hex_digit (b / 16) ∷ hex_digit (b % 16) ∷ [] else b ∷ []

abbrev pub quoted_text : List ℕ → List ℕ
quoted_text name = codes "\"" ++ (flat_map byte_text name ++ codes "\"")

abbrev pub name_text : List ℕ → List ℕ
name_text name = if is_plain name then name else quoted_text name

-- Tokens; strings, unknown bytes and names that name nothing do not occur
abbrev pub lexeme_text : Lexeme → List ℕ
lexeme_text (local name) = codes "%" ++ name_text name
lexeme_text (global name) = codes "@" ++ name_text name
lexeme_text (label name) = name_text name ++ codes ":"
lexeme_text nameless_local = []
lexeme_text nameless_global = []
lexeme_text nameless_label = []
lexeme_text (metadata text) = codes "!" ++ text
lexeme_text (group digits) = codes "#" ++ digits
lexeme_text (number text) = text
lexeme_text (word text) = text
lexeme_text string = []
lexeme_text (mark c) = c ∷ []
lexeme_text other = []

-- Between two tokens of a line stands a blank, but not after `(`, and not before `(`, `)` and `,`.
abbrev pub takes_blank_before : Lexeme → Bool
takes_blank_before (mark c) = not (c == byte "(" || c == byte ")" || c == byte ",")
takes_blank_before _ = true

abbrev pub takes_blank_after : Lexeme → Bool
takes_blank_after (mark c) = not (c == byte "(")
takes_blank_after _ = true

abbrev pub blank_between : Bool → Bool → List ℕ
blank_between after before = if after && before then codes " " else []

-- tokens on one line, after a token that takes a blank after it, or not
abbrev pub written : Bool → List Lexeme → List ℕ
written after [] = []
written after (l ∷ rest) =
    blank_between after (takes_blank_before l) ++ (lexeme_text l ++ written (takes_blank_after l) rest)

-- whether what follows these tokens takes a blank
abbrev pub blank_due_after : Bool → List Lexeme → Bool
blank_due_after after [] = after
blank_due_after after (l ∷ rest) = blank_due_after (takes_blank_after l) rest

-- Lines

abbrev pub line_feed : List ℕ
line_feed = codes "\n"

-- a line of these tokens after an indent
abbrev pub text_line : List ℕ → List Lexeme → List ℕ
text_line indent ls = indent ++ (written false ls ++ line_feed)

abbrev pub indented : List Lexeme → List ℕ
indented = text_line (codes "  ")

-- the first line of a switch, up to the bracket before its cases
abbrev pub switch_head : ℕ → List Lexeme → List ℕ → List Lexeme
switch_head width on default = word (codes "switch") ∷ (on ++ (comma ∷ (target default ++ (open_square ∷ []))))

-- Blocks. A switch has each case on a line of its own.
abbrev pub terminator_text : TerminatorKind → List ℕ
terminator_text (TerminatorKind.Switch width on default cases) =
    indented (switch_head width (typed width on) default)
    ++ (flat_map (λ c. text_line (codes "    ") (switch_case width c)) cases ++ indented (close_square ∷ []))
terminator_text t = indented (terminator_kind t)

abbrev pub label_text : Option (List ℕ) → List ℕ
label_text None = []
label_text (Some name) = text_line [] (label name ∷ [])

abbrev pub block_text : BasicBlock → List ℕ
block_text b =
    label_text b.label
    ++ (flat_map (λ p. indented (phi p)) b.phis
    ++ (flat_map (λ i. indented (instruction i)) b.instructions ++ terminator_text b.terminator.kind))

-- an empty line stands before each block but the first
abbrev pub blocks_text : List BasicBlock → List ℕ
blocks_text [] = []
blocks_text (entry ∷ rest) = block_text entry ++ flat_map (λ b. line_feed ++ block_text b) rest

-- Functions

-- the bytes between the parameters and the body, after a blank
abbrev pub tail_text : List ℕ → List ℕ
tail_text [] = []
tail_text (b ∷ rest) = codes " " ++ (b ∷ rest)

-- the text of a tree with the bytes of its tail; no line feed follows the last brace
abbrev pub sentence_text : Sentence → List ℕ → List ℕ
sentence_text s tail =
    written false (header s) ++ (tail_text tail ++ (codes " {" ++ (line_feed ++ (blocks_text s.blocks ++ codes "}"))))
