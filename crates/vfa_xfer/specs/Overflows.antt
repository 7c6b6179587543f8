-- Facts of the intrinsics with overflow (LLVM Language Reference, "Arithmetic with Overflow Intrinsics"): of the number, as of
-- the operation without flags, and of the bit.
use Rattle.std.specs.Prelude.{ℕ, Bool, false, ◌&&◌, Option, Some, None, if◌then◌else◌}
use Rattle.vfa_ir.specs.declared.operations.Bin.{Bin}
use Rattle.vfa_ir.specs.declared.operations.Flags.{Flags}
use Rattle.vfa_ir.specs.declared.operations.Over.{Over}
use Rattle.vfa_wrap.specs.WholeSpans.{span_of_results, overflow_of}
use Rattle.vfa_wrap.specs.declared.reading.Reading.{Reading}
use Rattle.vfa_fact.specs.declared.cell.Parts.{Parts}
use Rattle.vfa_fact.specs.declared.numbers.Numbers.{Numbers}
use Rattle.vfa_fact.specs.Cells.{CellValue, cell_of, only_number, all_numbers}
use Rattle.vfa_mean.specs.Rows.{bit_of, overflow_arith, has_signed_range}
use Rattle.vfa_xfer.specs.Binary.{binary_cell, ends_in_numbers}

abbrev pub range_of_overflow : Over → Reading
range_of_overflow over = if has_signed_range over then Reading.Signed else Reading.Unsigned

-- the number of a bit that is decided, or both
abbrev pub decided_bit : Option Bool → Numbers
decided_bit (Some bit) = only_number 1 (bit_of bit)
decided_bit None = all_numbers 1

-- 0 where the span of the whole results lies in the range, 1 where no number of it does, else both. At width 8,
-- `uadd.with.overflow` of 200 to 210 and 100 to 105 has the span 300 to 315, and the bit 1
unfoldable pub overflow_numbers : Over → ℕ → Numbers → Numbers → Numbers
overflow_numbers over w m n = decided_bit (overflow_of (range_of_overflow over) w
    (span_of_results (overflow_arith over) (range_of_overflow over) (ends_in_numbers w m) (ends_in_numbers w n)))

-- the cell of the bit, never poison where both operands are; without numbers where an operand has none
abbrev pub overflow_by_numbers : Over → CellValue → CellValue → Option Numbers → Option Numbers → CellValue
overflow_by_numbers over a b (Some m) (Some n) = cell_of 1 (Some (overflow_numbers over a.width m n)) (a.never_poison && b.never_poison)
overflow_by_numbers over a b (Some m) None = cell_of 1 None false
overflow_by_numbers over a b None n = cell_of 1 None false

abbrev pub overflow_cell : Over → CellValue → CellValue → CellValue
overflow_cell over a b = overflow_by_numbers over a b a.numbers b.numbers

-- the operation that gives the number, and its flags, of which there are none
abbrev pub overflow_operation : Over → Bin
overflow_operation Over.Uadd = Bin.Add
overflow_operation Over.Sadd = Bin.Add
overflow_operation Over.Usub = Bin.Sub
overflow_operation Over.Ssub = Bin.Sub
overflow_operation Over.Umul = Bin.Mul
overflow_operation Over.Smul = Bin.Mul

abbrev pub no_flags : Flags
no_flags = record { nuw = false; nsw = false; exact = false; disjoint = false }

-- the number as of the operation without flags, and the bit
abbrev pub overflow_parts : Over → CellValue → CellValue → Parts
overflow_parts over a b = Parts.Two (binary_cell (overflow_operation over) no_flags a b) (overflow_cell over a b)
