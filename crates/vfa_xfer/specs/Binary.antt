-- What is known of the result of a binary operation, an equation an operation: its numbers, and whether it is ever poison.
-- The numbers are those of LLVM's KnownBits and ConstantRange together, in one fixed form for each operation.
use Rattle.std.specs.Prelude.{ℕ, ◌-◌, ◌^◌, Bool, true, false, not, ◌&&◌, ◌||◌, Option, Some, None, nat_eq, nat_lt, nat_le, bit_and, bit_or, bit_xor, if◌then◌else◌}
use Rattle.std.specs.Option.{option_and_then}
use Rattle.vfa_ir.specs.declared.operations.Bin.{Bin}
use Rattle.vfa_ir.specs.declared.operations.Flags.{Flags}
use Rattle.vfa_word.specs.Operations.{sum_of, difference_of, shifted_left, shifted_right, shifted_right_signed}
use Rattle.vfa_word.specs.declared.arith.Arith.{Arith}
use Rattle.vfa_dom.specs.Best.{Masks, best_of}
use Rattle.vfa_dom.specs.Results.{results, results_over}
use Rattle.vfa_known.specs.Cube.{in_masks}
use Rattle.vfa_known.specs.Product.{product_masks, run_of, is_known_zero}
use Rattle.vfa_wrap.specs.Arc.{Span, full_span, sum_span, difference_span}
use Rattle.vfa_wrap.specs.Ends.{EndsOf, ends_of}
use Rattle.vfa_wrap.specs.Rows.{row_by_ends}
use Rattle.vfa_wrap.specs.declared.ends_op.EndsOp.{EndsOp}
use Rattle.vfa_wrap.specs.declared.reading.Reading.{Reading}
use Rattle.vfa_fact.specs.declared.numbers.Numbers.{Numbers}
use Rattle.vfa_fact.specs.Cells.{CellValue, cell_of}
use Rattle.vfa_fact.specs.Cuts.{AmountsOf, amounts_of, divisors_of}
use Rattle.vfa_fact.specs.Fact.{masks_in, span_in, in_numbers}
use Rattle.vfa_mean.specs.Meaning.{binary}
use Rattle.vfa_mean.specs.declared.value.Val.{Val}
use Rattle.vfa_xfer.specs.Bounds.{no_bounds, both_bounds, bound_if, span_bound, wrap_bounds, row_of, keeps_in_range}
use Rattle.vfa_xfer.specs.Constants.{constant_numbers, single_in, where_single}
use Rattle.vfa_xfer.specs.Rows.{RowOf, row_numbers}

-- ---- the ends of a fact's numbers, and the best masks of the results of two cubes

unfoldable pub ends_in_numbers : ℕ → Numbers → EndsOf
ends_in_numbers w n = ends_of w (in_numbers w n)

unfoldable pub best_results : ℕ → (ℕ → ℕ → ℕ) → Numbers → Numbers → Masks
best_results w op m n = best_of w (results w op (in_masks w (masks_in m)) (in_masks w (masks_in n)))

unfoldable pub best_shifts : ℕ → (ℕ → ℕ → ℕ) → Numbers → ℕ → Masks
best_shifts w op m amounts = best_of w (results_over w op (in_masks w (masks_in m)) amounts)

-- nothing is known of any bit
abbrev pub no_masks : Masks
no_masks = record { zeros = 0; ones = 0 }

-- ---- the rows: the numbers that the operation may give of a number of m and one of n

-- `add` and `sub`: the arc of the sums or differences of two arcs
unfoldable pub sum_row : Flags → ℕ → Numbers → Numbers → Option RowOf
sum_row flags w m n = row_of
    (best_results w (sum_of w) m n)
    (Some (sum_span w (span_in m) (span_in n)))
    (wrap_bounds Arith.Add flags w (ends_in_numbers w m) (ends_in_numbers w n))

unfoldable pub difference_row : Flags → ℕ → Numbers → Numbers → Option RowOf
difference_row flags w m n = row_of
    (best_results w (difference_of w) m n)
    (Some (difference_span w (span_in m) (span_in n)))
    (wrap_bounds Arith.Sub flags w (ends_in_numbers w m) (ends_in_numbers w n))

-- `mul`: the low bits that both know, and the arc of the products of the ends
unfoldable pub product_row : Flags → ℕ → Numbers → Numbers → Option RowOf
product_row flags w m n = row_of
    (product_masks w (masks_in m) (masks_in n))
    (row_by_ends EndsOp.Mul w (ends_in_numbers w m) (ends_in_numbers w n))
    (wrap_bounds Arith.Mul flags w (ends_in_numbers w m) (ends_in_numbers w n))

-- `and` and `xor`
unfoldable pub and_bits_row : ℕ → Numbers → Numbers → Option RowOf
and_bits_row w m n = row_of
    (best_results w bit_and m n)
    (row_by_ends EndsOp.And w (ends_in_numbers w m) (ends_in_numbers w n))
    (Some (no_bounds w))

unfoldable pub xor_bits_row : ℕ → Numbers → Numbers → Option RowOf
xor_bits_row w m n = row_of (best_results w bit_xor m n) (Some (full_span w)) (Some (no_bounds w))

-- `or`; where no bit may be one in both it is a sum that does not wrap, and there is no such number where a bit is known to
-- be one in both
unfoldable pub disjoint_bound : ℕ → Numbers → Numbers → Option Span
disjoint_bound w m n =
    if nat_eq (bit_and m.ones n.ones) 0
    then span_bound Arith.Add Reading.Unsigned w (ends_in_numbers w m) (ends_in_numbers w n)
    else None

unfoldable pub or_bits_row : Flags → ℕ → Numbers → Numbers → Option RowOf
or_bits_row flags w m n = row_of
    (best_results w bit_or m n)
    (row_by_ends EndsOp.Or w (ends_in_numbers w m) (ends_in_numbers w n))
    (both_bounds (bound_if flags.disjoint w (disjoint_bound w m n)) (Some (full_span w)))

-- `shl`, `lshr`, `ashr`: over the amounts below the width alone; there is no row where there is no such amount. At width 8,
-- 3 shifted to the left by 1 or by 200 is 6
unfoldable pub left_row : Flags → ℕ → Numbers → AmountsOf → Option RowOf
left_row flags w m t = row_of
    (best_shifts w (shifted_left w) m t.mask)
    (row_by_ends EndsOp.Shl w (ends_in_numbers w m) t.ends)
    (wrap_bounds Arith.Shl flags w (ends_in_numbers w m) t.ends)

unfoldable pub right_row : ℕ → Numbers → AmountsOf → Option RowOf
right_row w m t = row_of
    (best_shifts w shifted_right m t.mask)
    (row_by_ends EndsOp.Lshr w (ends_in_numbers w m) t.ends)
    (Some (no_bounds w))

unfoldable pub right_signed_row : ℕ → Numbers → AmountsOf → Option RowOf
right_signed_row w m t = row_of
    (best_shifts w (shifted_right_signed w) m t.mask)
    (row_by_ends EndsOp.Ashr w (ends_in_numbers w m) t.ends)
    (Some (no_bounds w))

-- divisions and remainders: by the divisors other than 0 alone
unfoldable pub division_row : EndsOp → ℕ → Numbers → EndsOf → Option RowOf
division_row op w m d = row_of no_masks (row_by_ends op w (ends_in_numbers w m) d) (Some (no_bounds w))

-- the shifts by the amounts of n, and the divisions by its divisors
unfoldable pub over_amounts : ℕ → (AmountsOf → Option RowOf) → Numbers → Option RowOf
over_amounts w row n = option_and_then row (amounts_of w (in_numbers w n))

unfoldable pub over_divisors : ℕ → (EndsOf → Option RowOf) → Numbers → Option RowOf
over_divisors w row n = option_and_then row (divisors_of w (in_numbers w n))

unfoldable pub binary_row : Bin → Flags → ℕ → Numbers → Numbers → Option RowOf
binary_row Bin.Add flags w m n = sum_row flags w m n
binary_row Bin.Sub flags w m n = difference_row flags w m n
binary_row Bin.Mul flags w m n = product_row flags w m n
binary_row Bin.Shl flags w m n = over_amounts w (left_row flags w m) n
binary_row Bin.Udiv flags w m n = over_divisors w (division_row EndsOp.Udiv w m) n
binary_row Bin.Sdiv flags w m n = over_divisors w (division_row EndsOp.Sdiv w m) n
binary_row Bin.Lshr flags w m n = over_amounts w (right_row w m) n
binary_row Bin.Ashr flags w m n = over_amounts w (right_signed_row w m) n
binary_row Bin.Urem flags w m n = over_divisors w (division_row EndsOp.Urem w m) n
binary_row Bin.Srem flags w m n = over_divisors w (division_row EndsOp.Srem w m) n
binary_row Bin.And flags w m n = and_bits_row w m n
binary_row Bin.Or flags w m n = or_bits_row flags w m n
binary_row Bin.Xor flags w m n = xor_bits_row w m n

-- ---- never poison: of operands that are not poison, the operation gives a number (or has undefined behaviour)

-- each amount of the shift is below the width
abbrev pub shifts_within : ℕ → Numbers → Bool
shifts_within w n = nat_lt (ends_in_numbers w n).hi w

-- each bit that some amount shifts out to the right is known to be zero
unfoldable pub drops_zeros : ℕ → Numbers → Numbers → Bool
drops_zeros w m n = nat_le (ends_in_numbers w n).hi (run_of w (is_known_zero (masks_in m)))

-- no bit may be one in both
abbrev pub are_disjoint : ℕ → Numbers → Numbers → Bool
are_disjoint w m n = nat_eq (bit_or m.zeros n.zeros) (2 ^ w - 1)

unfoldable pub never_breaks : Bin → Flags → ℕ → Numbers → Numbers → Bool
never_breaks Bin.Add flags w m n = keeps_in_range Arith.Add flags w (ends_in_numbers w m) (ends_in_numbers w n)
never_breaks Bin.Sub flags w m n = keeps_in_range Arith.Sub flags w (ends_in_numbers w m) (ends_in_numbers w n)
never_breaks Bin.Mul flags w m n = keeps_in_range Arith.Mul flags w (ends_in_numbers w m) (ends_in_numbers w n)
never_breaks Bin.Shl flags w m n =
    shifts_within w n && keeps_in_range Arith.Shl flags w (ends_in_numbers w m) (ends_in_numbers w n)
never_breaks Bin.Udiv flags w m n = not flags.exact
never_breaks Bin.Sdiv flags w m n = not flags.exact
never_breaks Bin.Lshr flags w m n = shifts_within w n && (not flags.exact || drops_zeros w m n)
never_breaks Bin.Ashr flags w m n = shifts_within w n && (not flags.exact || drops_zeros w m n)
never_breaks Bin.Urem flags w m n = true
never_breaks Bin.Srem flags w m n = true
never_breaks Bin.And flags w m n = true
never_breaks Bin.Or flags w m n = not flags.disjoint || are_disjoint w m n
never_breaks Bin.Xor flags w m n = true

-- whether the operands that could make the result poison are never poison: a poison divisor is undefined behaviour, so in
-- divisions the dividend alone counts
abbrev pub operands_marked : Bin → CellValue → CellValue → Bool
operands_marked Bin.Udiv a b = a.never_poison
operands_marked Bin.Sdiv a b = a.never_poison
operands_marked Bin.Urem a b = a.never_poison
operands_marked Bin.Srem a b = a.never_poison
operands_marked _ a b = a.never_poison && b.never_poison

-- ---- the cell of the result

-- the number that the operation gives of two numbers. Where it gives one, no flag is broken
abbrev pub binary_constant : Bin → Flags → CellValue → CellValue → ℕ → ℕ → CellValue
binary_constant bin flags a b x y = cell_of a.width
    (constant_numbers a.width (binary bin flags a.width (Val.Number x) (Val.Number y)))
    (operands_marked bin a b)

-- by the row; without numbers where an operand has none
abbrev pub binary_by_row : Bin → Flags → CellValue → CellValue → Option Numbers → Option Numbers → CellValue
binary_by_row bin flags a b (Some m) (Some n) = cell_of a.width
    (row_numbers a.width (binary_row bin flags a.width m n))
    (operands_marked bin a b && never_breaks bin flags a.width m n)
binary_by_row bin flags a b (Some m) None = cell_of a.width None false
binary_by_row bin flags a b None n = cell_of a.width None false

unfoldable pub binary_cell : Bin → Flags → CellValue → CellValue → CellValue
binary_cell bin flags a b = where_single (single_in a) (single_in b)
    (binary_constant bin flags a b)
    (binary_by_row bin flags a b a.numbers b.numbers)
