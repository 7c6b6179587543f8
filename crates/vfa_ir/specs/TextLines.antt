-- The lines on which the phis, instructions and terminators of a function begin.
use Rattle.std.specs.Prelude.{ℕ, suc, List, [], ◌∷◌, ◌++◌, map, length, drop, get_or}
use Rattle.vfa_ir.specs.declared.functions.Lines.{Lines}
use Rattle.vfa_ir.specs.declared.syntax.BasicBlock.{BasicBlock}
use Rattle.vfa_ir.specs.Sentence.{Sentence}
use Rattle.vfa_ir.specs.Spelling.{header, block, block_label, phi, instruction, terminator}

-- the numbers of tokens of a block's phis, instructions and terminator
abbrev pub item_lengths : BasicBlock → List ℕ
item_lengths b =
    map (λ p. length (phi p)) b.phis
    ++ (map (λ i. length (instruction i)) b.instructions ++ (length (terminator b.terminator) ∷ []))

-- the line of the first token of each item, where the items have these lengths and the tokens stand on these lines
abbrev pub first_lines : List ℕ → List ℕ → List ℕ
first_lines [] lines = []
first_lines (n ∷ rest) lines = get_or lines 0 0 ∷ first_lines rest (drop n lines)

abbrev pub block_lines : List BasicBlock → List ℕ → List (List ℕ)
block_lines [] lines = []
block_lines (b ∷ rest) lines =
    first_lines (item_lengths b) (drop (length (block_label b.label)) lines) ∷ block_lines rest (drop (length (block b)) lines)

-- the body stands after the header, the tail and a brace
abbrev pub lines_of : Sentence → List ℕ → Lines
lines_of s lines = record { of = block_lines s.blocks (drop (suc (length (header s ++ s.tail))) lines) }
