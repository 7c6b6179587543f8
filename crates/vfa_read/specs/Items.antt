-- A block as it is read: its phis and its other instructions in one list of lines, the operands and the metadata of a phi
-- in one list of parts, since one token does not tell which of them comes.
use Rattle.std.specs.Prelude.{ℕ, List, [], ◌∷◌, ◌++◌, drop, filter_map, length, map, Bool, false, Option, Some, None, IsTrue, ⊤}
use Rattle.vfa_ir.specs.declared.syntax.Attachment.{Attachment}
use Rattle.vfa_ir.specs.declared.syntax.BasicBlock.{BasicBlock}
use Rattle.vfa_ir.specs.declared.syntax.Incoming.{Incoming}
use Rattle.vfa_ir.specs.declared.syntax.Instruction.{Instruction}
use Rattle.vfa_ir.specs.declared.syntax.PhiNode.{PhiNode}
use Rattle.vfa_ir.specs.Grammar.{FitsAttachment, FitsInstruction, FitsPhi, FitsValue}
use Rattle.vfa_ir.specs.Lexemes.{Lexeme}
use Rattle.vfa_ir.specs.Spelling as spell
use Rattle.vfa_ir.specs.TextLines.{first_lines, item_lengths}
use Rattle.vfa_read.specs.declared.lines.BlockLines.{BlockLines}
use Rattle.vfa_read.specs.declared.lines.Line.{Line}
use Rattle.vfa_read.specs.declared.phis.PhiPart.{PhiPart}
use Rattle.vfa_read.specs.declared.phis.PhiParts.{PhiParts}

-- what stands after a comma of a phi
abbrev pub phi_part : PhiPart → List Lexeme
phi_part (PhiPart.Entry i) = spell.comma ∷ spell.incoming i
phi_part (PhiPart.Attached a) = spell.attachment a

-- no operand stands after metadata
abbrev pub FitsParts : ℕ → Bool → List PhiPart → Type 0
FitsParts width operands [] = ⊤
FitsParts width operands (PhiPart.Entry i ∷ rest) = IsTrue operands × FitsValue width i.value × FitsParts width operands rest
FitsParts width operands (PhiPart.Attached a ∷ rest) = FitsAttachment a × FitsParts width false rest

abbrev pub part_entry : PhiPart → Option Incoming
part_entry (PhiPart.Entry i) = Some i
part_entry (PhiPart.Attached _) = None

abbrev pub part_attachment : PhiPart → Option Attachment
part_attachment (PhiPart.Entry _) = None
part_attachment (PhiPart.Attached a) = Some a

abbrev pub entries_of : List PhiPart → List Incoming
entries_of = filter_map part_entry

abbrev pub attachments_of : List PhiPart → List Attachment
attachments_of = filter_map part_attachment

-- a first operand, and the parts after it
abbrev pub parts_after : Incoming → List PhiPart → PhiParts
parts_after first parts = record { entries = first ∷ entries_of parts; attached = attachments_of parts }

-- a line of a block
abbrev pub line : Line → List Lexeme
line (Line.Phi p) = spell.phi p
line (Line.Plain i) = spell.instruction i

-- no phi stands after another instruction
abbrev pub FitsLines : Bool → List Line → Type 0
FitsLines phis [] = ⊤
FitsLines phis (Line.Phi p ∷ rest) = IsTrue phis × FitsPhi p × FitsLines phis rest
FitsLines phis (Line.Plain i ∷ rest) = FitsInstruction i × FitsLines false rest

abbrev pub line_phi : Line → Option PhiNode
line_phi (Line.Phi p) = Some p
line_phi (Line.Plain _) = None

abbrev pub line_instruction : Line → Option Instruction
line_instruction (Line.Phi _) = None
line_instruction (Line.Plain i) = Some i

abbrev pub phis_of : List Line → List PhiNode
phis_of = filter_map line_phi

abbrev pub instructions_of : List Line → List Instruction
instructions_of = filter_map line_instruction

abbrev pub lines_of : List Line → BlockLines
lines_of lines = record { phis = phis_of lines; instructions = instructions_of lines }

-- the numbers of lexemes of each line of a block
abbrev pub line_lengths : BlockLines → List ℕ
line_lengths b = map (λ p. length (spell.phi p)) b.phis ++ map (λ i. length (spell.instruction i)) b.instructions

-- the lines on which the items of a block begin, where its lexemes stand on these lines
abbrev pub block_numbers : BasicBlock → List ℕ → List ℕ
block_numbers b numbers = first_lines (item_lengths b) (drop (length (spell.block_label b.label)) numbers)
