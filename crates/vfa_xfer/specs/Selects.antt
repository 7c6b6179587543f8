-- Facts of what an operation takes over from an operand: `select`, `freeze`, `extractvalue` and `llvm.assume` (LLVM Language
-- Reference, "Instruction Reference").
use Rattle.std.specs.Prelude.{ℕ, true, ◌&&◌, nat_eq, Option, Some, None, if◌then◌else◌}
use Rattle.std.specs.Option.{is_some}
use Rattle.vfa_dom.specs.Sets.{single_of}
use Rattle.vfa_fact.specs.Cells.{CellValue, in_cell, cell_of, joined_cells, poison_cell, only_number, all_numbers}

-- the arms that the condition leaves: one where it is one number, else both together, where an arm without numbers gives way
-- and both have to be never poison
abbrev pub possible_arms : Option ℕ → CellValue → CellValue → CellValue
possible_arms (Some c) a b = if nat_eq c 0 then b else a
possible_arms None a b = joined_cells a b

-- `select`: the numbers of the arms that the condition leaves, none where it has no numbers; never poison where the condition
-- and each of these arms are. At width 8, an open condition and the arms 4 and 12 give `0000?100` from 4 to 12
abbrev pub selected_cell : CellValue → CellValue → CellValue → CellValue
selected_cell c a b =
    let arms = possible_arms (single_of c.width (in_cell c)) a b in
    if is_some c.numbers then cell_of a.width arms.numbers (c.never_poison && arms.never_poison) else poison_cell a.width

-- `freeze`: the operand where it is never poison; else all numbers, as LLVM's freeze of poison gives any. It is never poison
abbrev pub frozen_cell : CellValue → CellValue
frozen_cell a = if a.never_poison then a else cell_of a.width (Some (all_numbers a.width)) true

-- `extractvalue`: the number of a pair at index 0, else its overflow bit
abbrev pub part_cell : ℕ → CellValue → CellValue → CellValue
part_cell index number overflow = if nat_eq index 0 then number else overflow

-- `llvm.assume`: 1 where the condition may be 1; none where it can only be undefined behaviour
abbrev pub assumed_cell : CellValue → CellValue
assumed_cell c = cell_of 1 (if in_cell c 1 then Some (only_number 1 1) else None) c.never_poison
