-- The cell that a transfer gives of two cells is a cell.
use Rattle.std.proofs.Common.{◌≡◌, ℕ, ◌^◌, ◌<◌, ◌≤◌, Bool, false, ◌&&◌, sym, ap, subst, refl, Option, Some, None, bit_and, bit_or, bit_xor}
use Rattle.std.specs.Option.{option_and_then, is_some}
use Rattle.vfa_ir.specs.declared.operations.Bin.{Bin}
use Rattle.vfa_ir.specs.declared.operations.Flags.{Flags}
use Rattle.vfa_ir.specs.declared.operations.Op.{Op}
use Rattle.vfa_ir.specs.declared.operations.Operand.{Operand}
use Rattle.vfa_word.specs.Numbers.{IsWidth}
use Rattle.vfa_word.specs.Operations.{sum_of, difference_of, shifted_left, shifted_right, shifted_right_signed}
use Rattle.vfa_word.specs.declared.arith.Arith.{Arith}
use Rattle.vfa_known.specs.Product.{product_masks}
use Rattle.vfa_wrap.specs.Arc.{full_span, sum_span, difference_span}
use Rattle.vfa_wrap.specs.Ends.{EndsOf}
use Rattle.vfa_wrap.specs.Rows.{row_by_ends}
use Rattle.vfa_wrap.specs.declared.ends_op.EndsOp.{EndsOp}
use Rattle.vfa_fact.specs.declared.numbers.Numbers.{Numbers}
use Rattle.vfa_fact.specs.Cells.{CellValue, IsCell, cell_of, only_number}
use Rattle.vfa_fact.specs.Cuts.{AmountsOf, amounts_of, divisors_of}
use Rattle.vfa_fact.specs.Fact.{IsFact, masks_in, span_in, in_numbers}
use Rattle.vfa_fact.proofs.CellNumbers.{single_tells, cell_fits}
use Rattle.vfa_fact.proofs.JoinedCells.{AreFacts}
use Rattle.vfa_mean.specs.declared.value.Done.{Done}
use Rattle.vfa_mean.specs.declared.value.Val.{Val}
use Rattle.vfa_mean.specs.Meaning.{Allowed, Gave, done, binary}
use Rattle.vfa_mean.proofs.Typing.{done_typed}
use Rattle.vfa_xfer.specs.Binary.{ends_in_numbers, best_results, best_shifts, no_masks, sum_row, difference_row, product_row, and_bits_row, xor_bits_row, or_bits_row, disjoint_bound, left_row, right_row, right_signed_row, division_row, over_amounts, over_divisors, binary_row, binary_constant, binary_by_row, binary_cell}
use Rattle.vfa_xfer.specs.Bounds.{no_bounds, both_bounds, bound_if, wrap_bounds}
use Rattle.vfa_xfer.specs.Constants.{constant_numbers, single_in}
use Rattle.vfa_xfer.specs.Rows.{RowOf, row_numbers}
use Rattle.vfa_xfer.specs.Arcs.{full_arc, sum_arc, difference_arc, row_arc}
use Rattle.vfa_xfer.specs.BinarySound.{only_is_fact, where_holds}
use Rattle.vfa_xfer.specs.RowSets.{row_of_fact}

-- ---- cells with numbers

not_some : (n : Numbers) → ◌≡◌ {A = Option Numbers} None (Some n) → ⊥
not_some n e = cc

no_facts : (w : ℕ) → AreFacts w None
no_facts w n e = absurd (not_some n e)

pub cell_of_is : (w : ℕ) (o : Option Numbers) (mark : Bool) → IsWidth w → AreFacts w o → IsCell (cell_of w o mark)
cell_of_is w o mark width facts = record { width = width; fact = facts; unmarked = λ none. ap (λ (p : Option Numbers). is_some p && mark) none }

-- the number that is given, where it has the width
pub constant_facts : (w : ℕ) (d : Done) → 1 ≤ w → ((k : ℕ) → Allowed d (Gave (Val.Number k)) → k < 2 ^ w) → AreFacts w (constant_numbers w d)
constant_facts w (Done.Is (Val.Number k)) one fits n same = subst (IsFact w) (some_is (only_number w k) n same) (only_is_fact w k one (fits k refl))
  where
    some_is : (p q : Numbers) → Some p ≡ Some q → p ≡ q
    some_is p q e = cc
constant_facts w (Done.Is Val.Poison) one fits n same = absurd (not_some n same)
constant_facts w (Done.Is (Val.Pair k o)) one fits n same = absurd (not_some n same)
constant_facts w Done.Ub one fits n same = absurd (not_some n same)
constant_facts w (Done.AnyOf v) one fits n same = absurd (not_some n same)

pub single_fits : (a : CellValue) (x : ℕ) → single_in a ≡ Some x → x < 2 ^ a.width
single_fits a x is = cell_fits a x (((single_tells a (single_in a) refl x).0 is x).1 refl)

-- ---- the rows

each_fact : {A : Type 0} (w : ℕ) (o : Option A) (f : A → Option RowOf) → ((a : A) → AreFacts w (row_numbers w (f a))) → AreFacts w (row_numbers w (option_and_then f o))
each_fact w (Some a) f each = each a
each_fact w None f each = no_facts w

left_facts : (flags : Flags) (w : ℕ) (m : Numbers) (t : AmountsOf) → AreFacts w (row_numbers w (left_row flags w m t))
unfolding left_row
left_facts flags w m t n same = row_of_fact w (best_shifts w (shifted_left w) m t.mask) (row_by_ends EndsOp.Shl w (ends_in_numbers w m) t.ends)
    (wrap_bounds Arith.Shl flags w (ends_in_numbers w m) t.ends) n (row_arc EndsOp.Shl w (ends_in_numbers w m) t.ends) same

right_facts : (w : ℕ) (m : Numbers) (t : AmountsOf) → AreFacts w (row_numbers w (right_row w m t))
unfolding right_row
right_facts w m t n same = row_of_fact w (best_shifts w shifted_right m t.mask) (row_by_ends EndsOp.Lshr w (ends_in_numbers w m) t.ends)
    (Some (no_bounds w)) n (row_arc EndsOp.Lshr w (ends_in_numbers w m) t.ends) same

right_signed_facts : (w : ℕ) (m : Numbers) (t : AmountsOf) → AreFacts w (row_numbers w (right_signed_row w m t))
unfolding right_signed_row
right_signed_facts w m t n same = row_of_fact w (best_shifts w (shifted_right_signed w) m t.mask) (row_by_ends EndsOp.Ashr w (ends_in_numbers w m) t.ends)
    (Some (no_bounds w)) n (row_arc EndsOp.Ashr w (ends_in_numbers w m) t.ends) same

division_facts : (op : EndsOp) (w : ℕ) (m : Numbers) (d : EndsOf) → AreFacts w (row_numbers w (division_row op w m d))
unfolding division_row
division_facts op w m d n same = row_of_fact w no_masks (row_by_ends op w (ends_in_numbers w m) d) (Some (no_bounds w)) n (row_arc op w (ends_in_numbers w m) d) same

amounts_facts : (w : ℕ) (row : AmountsOf → Option RowOf) (n : Numbers) → ((t : AmountsOf) → AreFacts w (row_numbers w (row t))) → AreFacts w (row_numbers w (over_amounts w row n))
unfolding over_amounts
amounts_facts w row n each = each_fact w (amounts_of w (in_numbers w n)) row each

divisors_facts : (w : ℕ) (row : EndsOf → Option RowOf) (n : Numbers) → ((d : EndsOf) → AreFacts w (row_numbers w (row d))) → AreFacts w (row_numbers w (over_divisors w row n))
unfolding over_divisors
divisors_facts w row n each = each_fact w (divisors_of w (in_numbers w n)) row each

pub row_facts : (bin : Bin) (flags : Flags) (w : ℕ) (m n : Numbers) → AreFacts w (row_numbers w (binary_row bin flags w m n))
unfolding binary_row sum_row difference_row product_row and_bits_row or_bits_row xor_bits_row
row_facts Bin.Add flags w m n k same = row_of_fact w (best_results w (sum_of w) m n) (Some (sum_span w (span_in m) (span_in n)))
    (wrap_bounds Arith.Add flags w (ends_in_numbers w m) (ends_in_numbers w n)) k (sum_arc w (span_in m) (span_in n)) same
row_facts Bin.Sub flags w m n k same = row_of_fact w (best_results w (difference_of w) m n) (Some (difference_span w (span_in m) (span_in n)))
    (wrap_bounds Arith.Sub flags w (ends_in_numbers w m) (ends_in_numbers w n)) k (difference_arc w (span_in m) (span_in n)) same
row_facts Bin.Mul flags w m n k same = row_of_fact w (product_masks w (masks_in m) (masks_in n)) (row_by_ends EndsOp.Mul w (ends_in_numbers w m) (ends_in_numbers w n))
    (wrap_bounds Arith.Mul flags w (ends_in_numbers w m) (ends_in_numbers w n)) k (row_arc EndsOp.Mul w (ends_in_numbers w m) (ends_in_numbers w n)) same
row_facts Bin.Shl flags w m n k same = amounts_facts w (left_row flags w m) n (left_facts flags w m) k same
row_facts Bin.Udiv flags w m n k same = divisors_facts w (division_row EndsOp.Udiv w m) n (division_facts EndsOp.Udiv w m) k same
row_facts Bin.Sdiv flags w m n k same = divisors_facts w (division_row EndsOp.Sdiv w m) n (division_facts EndsOp.Sdiv w m) k same
row_facts Bin.Lshr flags w m n k same = amounts_facts w (right_row w m) n (right_facts w m) k same
row_facts Bin.Ashr flags w m n k same = amounts_facts w (right_signed_row w m) n (right_signed_facts w m) k same
row_facts Bin.Urem flags w m n k same = divisors_facts w (division_row EndsOp.Urem w m) n (division_facts EndsOp.Urem w m) k same
row_facts Bin.Srem flags w m n k same = divisors_facts w (division_row EndsOp.Srem w m) n (division_facts EndsOp.Srem w m) k same
row_facts Bin.And flags w m n k same = row_of_fact w (best_results w bit_and m n) (row_by_ends EndsOp.And w (ends_in_numbers w m) (ends_in_numbers w n))
    (Some (no_bounds w)) k (row_arc EndsOp.And w (ends_in_numbers w m) (ends_in_numbers w n)) same
row_facts Bin.Or flags w m n k same = row_of_fact w (best_results w bit_or m n) (row_by_ends EndsOp.Or w (ends_in_numbers w m) (ends_in_numbers w n))
    (both_bounds (bound_if flags.disjoint w (disjoint_bound w m n)) (Some (full_span w))) k (row_arc EndsOp.Or w (ends_in_numbers w m) (ends_in_numbers w n)) same
row_facts Bin.Xor flags w m n k same = row_of_fact w (best_results w bit_xor m n) (Some (full_span w)) (Some (no_bounds w)) k (full_arc w) same

-- ---- the result

module _ (bin : Bin) (flags : Flags) (a b : CellValue) (ia : IsCell a) (same : a.width ≡ b.width) where
  by_row_is : (p q : Option Numbers) → IsCell (binary_by_row bin flags a b p q)
  by_row_is (Some m) (Some n) = cell_of_is a.width _ _ ia.width (row_facts bin flags a.width m n)
  by_row_is (Some m) None = cell_of_is a.width None false ia.width (no_facts a.width)
  by_row_is None q = cell_of_is a.width None false ia.width (no_facts a.width)

  constant_is : (x y : ℕ) → single_in a ≡ Some x → single_in b ≡ Some y → IsCell (binary_constant bin flags a b x y)
  unfolding done
  constant_is x y ex ey = cell_of_is a.width _ _ ia.width
      (constant_facts a.width (binary bin flags a.width (Val.Number x) (Val.Number y)) ia.width.least (λ k given.
      done_typed (Op.Bin bin flags a.width Operand.Poison Operand.Poison) (Val.Number x) (Val.Number y) Val.Poison (Val.Number k) ia.width
      (record { first = single_fits a x ex; second = subst (λ w. y < 2 ^ w) (sym same) (single_fits b y ey) }) given))

  pub binary_cell_is : IsCell (binary_cell bin flags a b)
  unfolding binary_cell
  binary_cell_is = where_holds IsCell (single_in a) (single_in b) (binary_constant bin flags a b) (binary_by_row bin flags a b a.numbers b.numbers) constant_is
      (by_row_is a.numbers b.numbers)
