-- The ends of the numbers of a cell, of all of them and of those that an operation can use.
use Rattle.std.specs.Prelude.{Option}
use Rattle.std.specs.Option.{option_map, option_and_then}
use Rattle.vfa_wrap.specs.Ends.{EndsOf, ends_of}
use Rattle.vfa_fact.specs.declared.cell.CellAmounts.{CellAmounts}
use Rattle.vfa_fact.specs.declared.cell.CellEnds.{CellEnds}
use Rattle.vfa_fact.specs.Cells.{CellValue}
use Rattle.vfa_fact.specs.Cuts.{AmountsOf, amounts_of, divisors_of}
use Rattle.vfa_fact.specs.Fact.{in_numbers}

-- the ends that a value of the program shows
abbrev pub shown_cell_ends : CellEnds → EndsOf
shown_cell_ends e = record { lo = e.lo; hi = e.hi; slo = e.slo; shi = e.shi }

-- the amounts that a value of the program shows
abbrev pub shown_cell_amounts : CellAmounts → AmountsOf
shown_cell_amounts a = record { mask = a.mask; ends = shown_cell_ends a.ends }

-- the ends of the numbers of a cell
abbrev pub cell_ends : CellValue → Option EndsOf
cell_ends a = option_map (λ n. ends_of a.width (in_numbers a.width n)) a.numbers

-- the amounts of a shift among the numbers of a cell
abbrev pub cell_amounts : CellValue → Option AmountsOf
cell_amounts a = option_and_then (λ n. amounts_of a.width (in_numbers a.width n)) a.numbers

-- the ends of the divisors among the numbers of a cell
abbrev pub cell_divisors : CellValue → Option EndsOf
cell_divisors a = option_and_then (λ n. divisors_of a.width (in_numbers a.width n)) a.numbers
