-- What is known of the result of an operation, and all that the domain of facts answers.
use Rattle.std.specs.Prelude.{ℕ, false}
use Rattle.vfa_ir.specs.declared.operations.Op.{Op}
use Rattle.vfa_ir.specs.Printable.{op_type}
use Rattle.vfa_fact.specs.declared.cell.Parts.{Parts}
use Rattle.vfa_fact.specs.Cells.{CellValue}
use Rattle.vfa_values.specs.Answers.{Answers}
use Rattle.vfa_xfer.specs.declared.any_fact.AnyFact.{AnyFact}
use Rattle.vfa_xfer.specs.Binary.{binary_cell}
use Rattle.vfa_xfer.specs.Casts.{cast_cell}
use Rattle.vfa_xfer.specs.Comparisons.{compared_cell}
use Rattle.vfa_xfer.specs.Counts.{one_cell}
use Rattle.vfa_xfer.specs.Extremes.{two_cell}
use Rattle.vfa_xfer.specs.FactAnswers.{one_fact, any_of, answers_with}
use Rattle.vfa_xfer.specs.Overflows.{overflow_parts}
use Rattle.vfa_xfer.specs.Selects.{selected_cell, frozen_cell, part_cell, assumed_cell}

-- the cell of a number; of a pair that of its number
abbrev pub first_of : Parts → CellValue
first_of (Parts.One c) = c
first_of (Parts.Two c d) = c

abbrev pub cell_in : AnyFact → CellValue
cell_in f = first_of f.parts

-- the part of a pair
abbrev pub part_of_parts : ℕ → Parts → CellValue
part_of_parts index (Parts.One c) = c
part_of_parts index (Parts.Two c d) = part_cell index c d

-- by the operation, of facts of the operands that its fields of these names are; a call is no such operation
abbrev pub transferred : Op → AnyFact → AnyFact → AnyFact → AnyFact
transferred (Op.Bin bin flags w _ _) a b c = one_fact (binary_cell bin flags (cell_in a) (cell_in b))
transferred (Op.Icmp pred samesign w _ _) a b c = one_fact (compared_cell pred samesign (cell_in a) (cell_in b))
transferred (Op.Select w _ _ _) a b c = one_fact (selected_cell (cell_in c) (cell_in a) (cell_in b))
transferred (Op.Cast cast flags v w _) a b c = one_fact (cast_cell cast flags w (cell_in a))
transferred (Op.Freeze w _) a b c = one_fact (frozen_cell (cell_in a))
transferred (Op.Two fun w _ _) a b c = one_fact (two_cell fun (cell_in a) (cell_in b))
transferred (Op.One fun w _ strict) a b c = one_fact (one_cell fun strict (cell_in a))
transferred (Op.Over over w _ _) a b c = record { parts = overflow_parts over (cell_in a) (cell_in b) }
transferred (Op.Part w _ index) a b c = one_fact (part_of_parts index c.parts)
transferred (Op.Assume _) a b c = one_fact (assumed_cell (cell_in c))
transferred (Op.Call width args) a b c = any_of (op_type (Op.Call width args)) false

abbrev pub fact_answers : Answers AnyFact
fact_answers = answers_with transferred
