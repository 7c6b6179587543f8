-- The tree of a function as the code keeps it: its tail is given by places.
use Rattle.std.specs.Prelude.{◌≡◌, ◌⊎◌, ◌≤◌, ◌+◌, ◌-◌, ◌==◌, ℕ, suc, if◌then◌else◌, List, ◌∷◌, length, take, drop, Option, Some, None, Result, Ok, Err}
use Rattle.std.specs.Str.{byte}
use Rattle.vfa_ir.specs.declared.syntax.BasicBlock.{BasicBlock}
use Rattle.vfa_ir.specs.Lexemes.{Lexeme, mark}
use Rattle.vfa_ir.specs.Reads.{IsSentence, StopsAt, IsUnfinished}
use Rattle.vfa_ir.specs.Sentence.{Sentence}
use Rattle.vfa_ir.specs.Spelling as spell
use Rattle.vfa_ir.specs.TextLines.{block_lines}
use Rattle.vfa_read.specs.declared.headers.FunctionHeader.{FunctionHeader}
use Rattle.vfa_read.specs.declared.sentences.FunctionTree.{FunctionTree}
use Rattle.vfa_read.specs.declared.stops.Stop.{Stop}
use Rattle.vfa_read.specs.Headers as read

abbrev pub header_of : read.Header → FunctionHeader
header_of (lead, (width, (name, parameters))) = record { lead = lead; width = width; name = name; parameters = parameters }

abbrev pub blocks_of : read.Body → List BasicBlock
blocks_of (entry, blocks) = entry ∷ blocks

-- how many parentheses are open after a lexeme before which n are; none where it closes one too many
abbrev pub open_after : ℕ → Lexeme → Option ℕ
open_after n (mark c) = if c == byte "(" then Some (n + 1) else if c == byte ")" then (if n == 0 then None else Some (n - 1)) else Some n
open_after n _ = Some n

-- the lexemes from one place to another
abbrev pub between : ℕ → ℕ → List Lexeme → List Lexeme
between from to all = take (to - from) (drop from all)

-- what a function returns that reads a list of lexemes from a place: the place after it
abbrev pub GivesEnd : ℕ → List Lexeme → Result ℕ Stop → Result (List Lexeme × List Lexeme) ℕ → Type 0
GivesEnd from all (Ok to) read = (from ≤ to) × (read ≡ Ok (between from to all, drop to all))
GivesEnd from all (Err (Stop.At place)) read = read ≡ Err (length (drop place all))
GivesEnd from all (Err Stop.Memory) read = Unit {0}

abbrev pub tree_sentence : List Lexeme → FunctionTree → Sentence
tree_sentence all t = record {
  lead = t.header.lead;
  width = t.header.width;
  name = t.header.name;
  parameters = t.header.parameters;
  tail = between t.tail_start t.tail_end all;
  blocks = t.blocks;
}

-- The lexemes before a place are the sentence of the tree, whose tail stands at the places that the tree names.
pub record Begins (all : List Lexeme) (t : FunctionTree) (at : ℕ) : Type 0 where
  pub reads : read.sentence all ≡ Ok (tree_sentence all t, drop at all)
  pub start : t.tail_start ≡ length (spell.header (tree_sentence all t))
  pub tail : t.tail_start + length (between t.tail_start t.tail_end all) ≡ t.tail_end

abbrev pub GivesTree : List Lexeme → Result (FunctionTree × ℕ) Stop → Type 0
GivesTree all (Ok p) = Begins all p.0 p.1
GivesTree all (Err (Stop.At place)) = read.sentence all ≡ Err (length (drop place all))
GivesTree all (Err Stop.Memory) = Unit {0}

-- The lexemes stop being a sentence at the place, or are unfinished where it stands after all of them.
abbrev pub IsStop : List Lexeme → Stop → Type 0
IsStop all (Stop.At place) = StopsAt all place ⊎ ((length all ≤ place) × IsUnfinished all)
IsStop all Stop.Memory = Unit {0}

-- The lexemes are the sentence of the tree, whose tail stands at the places that the tree names.
pub record IsTree (all : List Lexeme) (t : FunctionTree) : Type 0 where
  pub is : IsSentence all (tree_sentence all t)
  pub start : t.tail_start ≡ length (spell.header (tree_sentence all t))
  pub tail : t.tail_start + length (between t.tail_start t.tail_end all) ≡ t.tail_end

-- The tree has the lines of its items, where the tokens stand on these lines: its body stands after the header, the tail
-- and a brace.
abbrev pub HasItsLines : List ℕ → FunctionTree → Type 0
HasItsLines numbers t = t.lines ≡ block_lines t.blocks (drop (suc t.tail_end) numbers)
