-- The arcs of rows are arcs of the width.
use Rattle.std.proofs.Common.{ℕ, ◌+◌, ◌-◌, ◌*◌, ◌%◌, ◌^◌, ◌<◌, Bool, true, false, cond, sym, subst, arith, inl, inr, Option, Some, None, ℤ}
use Rattle.std.specs.Prelude.{IfSome, ◌==◌, nat_lt, int_le, pos, min, ◌&&◌}
use Rattle.std.proofs.lemmas.Bool.{cases_lt}
use Rattle.std.proofs.lemmas.Nat.{mod_below, pow_pos}
use Rattle.vfa_word.specs.Numbers.{fits_signed}
use Rattle.vfa_wrap.specs.Arc.{Span, IsArc, steps, arc_from, full_span, sarc, sum_span, difference_span}
use Rattle.vfa_wrap.specs.Ends.{EndsOf}
use Rattle.vfa_wrap.specs.Rows.{row_by_ends, mul_row, and_row, or_row, shl_row, lshr_row, ashr_row, udiv_row, sdiv_row, urem_row, srem_row, near_quotients, signed_products, size_of, umin_row, umax_row, smin_row, smax_row}
use Rattle.vfa_wrap.specs.WholeSpans.{WholeSpan, clamped_span, least_corner, greatest_corner}
use Rattle.vfa_wrap.specs.declared.ends_op.EndsOp.{EndsOp}
use Rattle.vfa_wrap.specs.declared.reading.Reading.{Reading}
use Rattle.vfa_wrap.proofs.Circle.{steps_is, arc_from-mod, arc_from_full, arc_from_part, full_is_arc}

pub full_arc : (w : ℕ) → IsArc w (full_span w)
full_arc w = full_is_arc w (2 ^ w - 1) (let some = pow_pos w in omega arith)

from_numbers : (w p q : ℕ) → p < 2 ^ w → q < 2 ^ w → IsArc w (arc_from w p q)
from_numbers w p q hp hq =
    let on = steps_is w p q hp hq in
    elim (cases_lt (steps w p q + 1) (2 ^ w)) [
      | inl part ↦ subst (IsArc w) (sym (arc_from_part w p q hp hq part))
          (record { first_fits = hp; last_fits = hq; normal = λ full. absurd (omega arith) })
      | inr all ↦ subst (IsArc w) (sym (arc_from_full w p q hp hq (omega (arith, on.0)))) (full_arc w)
    ]

pub from_arc : (w p q : ℕ) → IsArc w (arc_from w p q)
from_arc w p q = subst (IsArc w) (arc_from-mod w p q)
    (from_numbers w (p % 2 ^ w) (q % 2 ^ w) (mod_below p (2 ^ w) (pow_pos w)) (mod_below q (2 ^ w) (pow_pos w)))

pub either_arc : (w : ℕ) (c : Bool) (s t : Span) → IsArc w s → IsArc w t → IsArc w (cond c s t)
either_arc w true s t hs ht = hs
either_arc w false s t hs ht = ht

pub sum_arc : (w : ℕ) (s t : Span) → IsArc w (sum_span w s t)
unfolding sum_span
sum_arc w s t = either_arc w _ (full_span w) _ (full_arc w) (from_arc w _ _)

pub difference_arc : (w : ℕ) (s t : Span) → IsArc w (difference_span w s t)
unfolding difference_span
difference_arc w s t = either_arc w _ (full_span w) _ (full_arc w) (from_arc w _ _)

pub clamped_arc : (r : Reading) (w : ℕ) (s : WholeSpan) → IsArc w (clamped_span r w s)
unfolding clamped_span
clamped_arc r w s = from_arc w _ _

empty_or : (w : ℕ) (c : Bool) (o : Option Span) → IfSome o (IsArc w) → IfSome (cond c None o) (IsArc w)
empty_or w true o h = tt
empty_or w false o h = h

one_or : (w : ℕ) (c : Bool) (o p : Option Span) → IfSome o (IsArc w) → IfSome p (IsArc w) → IfSome (cond c o p) (IsArc w)
one_or w true o p h k = h
one_or w false o p h k = k

udiv_arc : (w : ℕ) (a b : EndsOf) → IfSome (udiv_row w a b) (IsArc w)
unfolding udiv_row
udiv_arc w a b = empty_or w _ (Some _) (from_arc w _ _)

signed_arc : (w : ℕ) (p q : ℤ) → IsArc w (signed_products w p q)
signed_arc w p q = either_arc w (fits_signed w p && fits_signed w q) (sarc w p q) (full_span w) (from_arc w _ _) (full_arc w)

mul_arc : (w : ℕ) (a b : EndsOf) → IsArc w (mul_row w a b)
unfolding mul_row
mul_arc w a b = either_arc w (nat_lt (a.hi * b.hi) (2 ^ w)) (arc_from w (a.lo * b.lo) (a.hi * b.hi)) _ (from_arc w _ _)
    (signed_arc w (least_corner a.slo a.shi b.slo b.shi) (greatest_corner a.slo a.shi b.slo b.shi))

shl_arc : (w : ℕ) (a b : EndsOf) → IsArc w (shl_row w a b)
unfolding shl_row
shl_arc w a b = either_arc w _ _ (full_span w) (from_arc w _ _) (full_arc w)

near_arc : (w : ℕ) (a : EndsOf) → IsArc w (near_quotients w a)
unfolding near_quotients
near_arc w a = from_arc w _ _

sdiv_arc : (w : ℕ) (a b : EndsOf) → IfSome (sdiv_row w a b) (IsArc w)
unfolding sdiv_row
sdiv_arc w a b = empty_or w (size_of b == 0) _
    (one_or w (int_le (pos 0) a.slo && int_le (pos 0) b.slo) (udiv_row w a b) (Some (near_quotients w a)) (udiv_arc w a b) (near_arc w a))

urem_arc : (w : ℕ) (a b : EndsOf) → IfSome (urem_row w a b) (IsArc w)
unfolding urem_row
urem_arc w a b = empty_or w (b.hi == 0) _ (one_or w (nat_lt a.hi b.lo) (Some (arc_from w a.lo a.hi)) (Some (arc_from w 0 (min a.hi (b.hi - 1)))) (from_arc w _ _) (from_arc w _ _))

pub row_arc : (op : EndsOp) (w : ℕ) (a b : EndsOf) → IfSome (row_by_ends op w a b) (IsArc w)
unfolding row_by_ends and_row or_row lshr_row ashr_row srem_row umin_row umax_row smin_row smax_row
row_arc EndsOp.Mul w a b = mul_arc w a b
row_arc EndsOp.And w a b = from_arc w _ _
row_arc EndsOp.Or w a b = from_arc w _ _
row_arc EndsOp.Shl w a b = shl_arc w a b
row_arc EndsOp.Lshr w a b = from_arc w _ _
row_arc EndsOp.Ashr w a b = from_arc w _ _
row_arc EndsOp.Udiv w a b = udiv_arc w a b
row_arc EndsOp.Sdiv w a b = sdiv_arc w a b
row_arc EndsOp.Urem w a b = urem_arc w a b
row_arc EndsOp.Srem w a b = empty_or w (size_of b == 0) (Some _) (from_arc w _ _)
row_arc EndsOp.Umin w a b = from_arc w _ _
row_arc EndsOp.Umax w a b = from_arc w _ _
row_arc EndsOp.Smin w a b = from_arc w _ _
row_arc EndsOp.Smax w a b = from_arc w _ _
row_arc EndsOp.UaddSat w a b = clamped_arc _ w _
row_arc EndsOp.UsubSat w a b = clamped_arc _ w _
row_arc EndsOp.SaddSat w a b = clamped_arc _ w _
row_arc EndsOp.SsubSat w a b = clamped_arc _ w _
