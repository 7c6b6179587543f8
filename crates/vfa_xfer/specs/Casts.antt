-- Facts of `zext`, `sext` and `trunc` from width v to width w (LLVM Language Reference, "Conversion Operations"), an equation
-- each: the best known bits, and the arc of LLVM's ConstantRange::zeroExtend, signExtend and truncate or a coarser one.
use Rattle.std.specs.Prelude.{ℕ, ◌+◌, ◌-◌, ◌^◌, Bool, true, false, not, ◌&&◌, ◌||◌, nat_lt, pos, int_le, Option, Some, None, if◌then◌else◌}
use Rattle.vfa_ir.specs.declared.operations.Cast.{Cast}
use Rattle.vfa_ir.specs.declared.operations.CastFlags.{CastFlags}
use Rattle.vfa_word.specs.Operations.{zero_extended, sign_extended, truncated}
use Rattle.vfa_dom.specs.Best.{Masks, best_of}
use Rattle.vfa_dom.specs.Results.{images}
use Rattle.vfa_known.specs.Cube.{in_masks}
use Rattle.vfa_wrap.specs.Arc.{Span, steps, full_span, arc_from, sarc}
use Rattle.vfa_wrap.specs.Ends.{EndsOf}
use Rattle.vfa_wrap.specs.WholeSpans.{read_ends, bound_of, lies_in_range}
use Rattle.vfa_wrap.specs.declared.reading.Reading.{Reading}
use Rattle.vfa_fact.specs.declared.numbers.Numbers.{Numbers}
use Rattle.vfa_fact.specs.Cells.{CellValue, cell_of}
use Rattle.vfa_fact.specs.Fact.{masks_in, span_in}
use Rattle.vfa_xfer.specs.Binary.{ends_in_numbers}
use Rattle.vfa_xfer.specs.Bounds.{both_bounds, bound_if, row_of}
use Rattle.vfa_xfer.specs.Rows.{RowOf, row_numbers}

-- the number of width w that a number of width v is converted to
abbrev pub converted : Cast → ℕ → ℕ → ℕ → ℕ
converted Cast.Zext v w = zero_extended
converted Cast.Sext v w = sign_extended v w
converted Cast.Trunc v w = truncated w

-- the best known bits of the converted numbers of a cube
unfoldable pub cast_masks : Cast → ℕ → ℕ → Numbers → Masks
cast_masks cast v w n = best_of w (images v (converted cast v w) (in_masks v (masks_in n)))

-- the low bits of an arc's numbers: all where it has 2^w numbers or more
unfoldable pub truncated_span : ℕ → ℕ → Span → Span
truncated_span v w s = if nat_lt (steps v s.first s.last + 1) (2 ^ w) then arc_from w s.first s.last else full_span w

unfoldable pub cast_arc : Cast → ℕ → ℕ → Numbers → EndsOf → Span
cast_arc Cast.Zext v w n e = arc_from w e.lo e.hi
cast_arc Cast.Sext v w n e = sarc w e.slo e.shi
cast_arc Cast.Trunc v w n e = truncated_span v w (span_in n)

-- the numbers from the least to the greatest end that are in the range of the width, in a reading; None where none is
abbrev pub ends_bound : Reading → ℕ → EndsOf → Option Span
ends_bound reading w e = bound_of reading w (read_ends reading e)

-- `nneg` of `zext`: the numbers of width v that are not negative; `nuw` of `trunc`: those that are below 2^w. At width 4,
-- `trunc nuw` of 10 to 200 is 10 to 15
abbrev pub first_bound : Cast → CastFlags → ℕ → ℕ → EndsOf → Option Span
first_bound Cast.Zext flags v w e = bound_if flags.nneg w (Some (arc_from w 0 (2 ^ (v - 1) - 1)))
first_bound Cast.Sext flags v w e = Some (full_span w)
first_bound Cast.Trunc flags v w e = bound_if flags.nuw w (ends_bound Reading.Unsigned w e)

-- `nsw` of `trunc`: those whose readings are in the signed range of width w
abbrev pub second_bound : Cast → CastFlags → ℕ → EndsOf → Option Span
second_bound Cast.Zext flags w e = Some (full_span w)
second_bound Cast.Sext flags w e = Some (full_span w)
second_bound Cast.Trunc flags w e = bound_if flags.nsw w (ends_bound Reading.Signed w e)

unfoldable pub cast_row : Cast → CastFlags → ℕ → ℕ → Numbers → EndsOf → Option RowOf
cast_row cast flags v w n e =
    row_of (cast_masks cast v w n) (Some (cast_arc cast v w n e)) (both_bounds (first_bound cast flags v w e) (second_bound cast flags w e))

-- whether no number between the ends breaks a flag
unfoldable pub keeps_number : Cast → CastFlags → ℕ → EndsOf → Bool
keeps_number Cast.Zext flags w e = not flags.nneg || int_le (pos 0) e.slo
keeps_number Cast.Sext flags w e = true
keeps_number Cast.Trunc flags w e =
    (not flags.nuw || lies_in_range Reading.Unsigned w (read_ends Reading.Unsigned e))
    && (not flags.nsw || lies_in_range Reading.Signed w (read_ends Reading.Signed e))

-- by the row; without numbers where the operand has none
abbrev pub cast_by_row : Cast → CastFlags → ℕ → CellValue → Option Numbers → CellValue
cast_by_row cast flags w a (Some n) =
    let e = ends_in_numbers a.width n in
    cell_of w (row_numbers w (cast_row cast flags a.width w n e)) (a.never_poison && keeps_number cast flags w e)
cast_by_row cast flags w a None = cell_of w None false

-- the cell of the converted numbers, never poison where the operand is not and no flag is broken. From width 8 to 4, `trunc`
-- of 10 to 20 is 10 to 4, and with `nuw` it is 10 to 15 that may be poison
abbrev pub cast_cell : Cast → CastFlags → ℕ → CellValue → CellValue
cast_cell cast flags w a = cast_by_row cast flags w a a.numbers
