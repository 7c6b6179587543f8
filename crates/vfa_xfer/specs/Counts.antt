-- Facts of the intrinsics of one number (LLVM Language Reference, "Bit Manipulation Intrinsics" and "llvm.abs"), an equation
-- each. With `strict`, the argument that makes the edge case poison, that case gives no number: 0 of `ctlz` and `cttz`, and the
-- least signed value of `abs`.
use Rattle.std.specs.Prelude.{ℕ, ◌-◌, ◌^◌, Bool, true, false, not, ◌&&◌, ◌||◌, min, pos, int_le, int_lt, unsigned_abs, Option, Some, None, if◌then◌else◌}
use Rattle.std.specs.Option.{option_map}
use Rattle.vfa_ir.specs.declared.operations.Fun1.{Fun1}
use Rattle.vfa_word.specs.Operations.{one_bits, leading_zero_bits, trailing_zero_bits}
use Rattle.vfa_known.specs.Product.{run_of, is_known_zero}
use Rattle.vfa_wrap.specs.Arc.{Span, full_span, arc_from}
use Rattle.vfa_wrap.specs.Ends.{EndsOf}
use Rattle.vfa_wrap.specs.Rows.{size_of}
use Rattle.vfa_fact.specs.declared.numbers.Numbers.{Numbers}
use Rattle.vfa_fact.specs.Cells.{CellValue, cell_of}
use Rattle.vfa_fact.specs.Cuts.{divisors_of}
use Rattle.vfa_fact.specs.Fact.{masks_in, in_numbers}
use Rattle.vfa_xfer.specs.Binary.{ends_in_numbers, no_masks}
use Rattle.vfa_xfer.specs.Bounds.{BoundsOf, no_bounds, both_bounds, bound_if, row_of}
use Rattle.vfa_xfer.specs.Rows.{RowOf, row_numbers}

-- `ctpop`: from the number of the known ones up to all bits but the known zeros
unfoldable pub ones_arc : ℕ → Numbers → Span
ones_arc w n = arc_from w (one_bits w n.ones) (w - one_bits w n.zeros)

-- the ends of the numbers, or of those other than 0, of which there may be none
unfoldable pub counted_ends : Bool → ℕ → Numbers → Option EndsOf
counted_ends strict w n =
    if strict then divisors_of w (in_numbers w n) else Some (ends_in_numbers w n)

-- `ctlz`: a greater number has no more zeros above its highest one
abbrev pub leading_between : ℕ → EndsOf → Span
leading_between w e = arc_from w (leading_zero_bits w e.hi) (leading_zero_bits w e.lo)

unfoldable pub leading_arc : Bool → ℕ → Numbers → Option Span
leading_arc strict w n = option_map (leading_between w) (counted_ends strict w n)

-- `cttz`: at least the run of known zeros from bit 0 on, at most the place of the lowest known one, or w where none is known;
-- of a number other than 0 at most w - 1
abbrev pub most_trailing : Bool → ℕ → Numbers → ℕ
most_trailing strict w n =
    if strict then min (trailing_zero_bits w n.ones) (w - 1) else trailing_zero_bits w n.ones

unfoldable pub trailing_arc : Bool → ℕ → Numbers → Option Span
trailing_arc strict w n = option_map
    (λ _. arc_from w (run_of w (is_known_zero (masks_in n))) (most_trailing strict w n))
    (counted_ends strict w n)

-- `abs`, by the ends: the numbers themselves where none is negative, their distances from 0 where each is, and else from 0 to
-- the greatest distance
unfoldable pub distance_arc : ℕ → EndsOf → Span
distance_arc w e =
    if int_le (pos 0) e.slo then arc_from w e.lo e.hi
    else (if int_lt e.shi (pos 0)
    then arc_from w (unsigned_abs e.shi) (unsigned_abs e.slo)
    else arc_from w 0 (size_of e))

-- with `strict` a result of `abs` is not the least signed value, so it is not negative
abbrev pub distance_bounds : Bool → ℕ → Option BoundsOf
distance_bounds strict w = both_bounds (bound_if strict w (Some (arc_from w 0 (2 ^ (w - 1) - 1)))) (Some (full_span w))

unfoldable pub one_row : Fun1 → Bool → ℕ → Numbers → Option RowOf
one_row Fun1.Abs strict w n = row_of no_masks (Some (distance_arc w (ends_in_numbers w n))) (distance_bounds strict w)
one_row Fun1.Ctlz strict w n = row_of no_masks (leading_arc strict w n) (Some (no_bounds w))
one_row Fun1.Cttz strict w n = row_of no_masks (trailing_arc strict w n) (Some (no_bounds w))
one_row Fun1.Ctpop strict w n = row_of no_masks (Some (ones_arc w n)) (Some (no_bounds w))

-- whether none of the numbers is the edge case, or that is no poison
unfoldable pub avoids_edge : Fun1 → Bool → ℕ → Numbers → Bool
avoids_edge Fun1.Abs strict w n = not strict || not (in_numbers w n (2 ^ (w - 1)))
avoids_edge Fun1.Ctlz strict w n = not strict || not (in_numbers w n 0)
avoids_edge Fun1.Cttz strict w n = not strict || not (in_numbers w n 0)
avoids_edge Fun1.Ctpop strict w n = true

-- by the row; without numbers where the operand has none
abbrev pub one_by_row : Fun1 → Bool → CellValue → Option Numbers → CellValue
one_by_row fun strict a (Some n) = cell_of a.width
    (row_numbers a.width (one_row fun strict a.width n))
    (a.never_poison && avoids_edge fun strict a.width n)
one_by_row fun strict a None = cell_of a.width None false

-- the cell of the result, never poison where the operand is not and the edge case is not met. At width 8, `ctlz` of 1 to 20 is
-- 3 to 7, and of 0 to 20 it is 3 to 8, or with `strict` 3 to 7 that may be poison
abbrev pub one_cell : Fun1 → Bool → CellValue → CellValue
one_cell fun strict a = one_by_row fun strict a a.numbers
