-- The arcs of minimum and maximum hold every result whose operands lie between the ends.
use Rattle.std.proofs.Common.{◌≡◌, ℕ, ◌-◌, ◌^◌, ◌<◌, ◌≤◌, Bool, true, false, cond, min, max, ℤ, refl, arith, Some}
use Rattle.std.specs.Prelude.{IsTrue, ◌≤ℤ◌, int_lt}
use Rattle.std.specs.Int.{int_min, int_max}
use Rattle.std.proofs.lemmas.Int.{ints, clamps}
use Rattle.vfa_word.specs.Numbers.{signed_of}
use Rattle.vfa_word.specs.Operations.{signed_minimum, signed_maximum}
use Rattle.vfa_word.proofs.Readings.{wrap_of_reading}
use Rattle.vfa_wrap.specs.Arc.{in_span, sarc}
use Rattle.vfa_wrap.specs.Ends.{EndsOf}
use Rattle.vfa_wrap.specs.Between.{AreEnds}
use Rattle.vfa_wrap.specs.RowResults.{result_of}
use Rattle.vfa_wrap.specs.Rows.{HoldsResults, umin_row, umax_row, smin_row, smax_row}
use Rattle.vfa_wrap.specs.declared.ends_op.EndsOp.TheVariants.{Umin, Umax, Smin, Smax}
use Rattle.vfa_wrap.proofs.RowArcs.{FitsHalf, arc_from_holds, sarc_holds}
use Rattle.vfa_wrap.proofs.RowLaws.{same_result}
use Rattle.vfa_wrap.proofs.SignedRowLaws.{slo_fits, shi_fits}

pub umin_holds : (w : ℕ) (a b : EndsOf) → AreEnds w a → HoldsResults Umin w a b (Some (umin_row w a b))
unfolding umin_row result_of
umin_holds w a b ea = record {
  holds = λ x y r px py e.
      same_result w (min x y) r (umin_row w a b) e
      (arc_from_holds w (min a.lo b.lo) (min a.hi b.hi) (min x y) (omega (arith, px.from, py.from))
      (omega (arith, px.upto, py.upto)) (omega (arith, ea.hi.fits)));
}

pub umax_holds : (w : ℕ) (a b : EndsOf) → AreEnds w a → AreEnds w b → HoldsResults Umax w a b (Some (umax_row w a b))
unfolding umax_row result_of
umax_holds w a b ea eb = record {
  holds = λ x y r px py e.
      same_result w (max x y) r (umax_row w a b) e
      (arc_from_holds w (max a.lo b.lo) (max a.hi b.hi) (max x y) (omega (arith, px.from, py.from))
      (omega (arith, px.upto, py.upto)) (omega (arith, ea.hi.fits, eb.hi.fits)));
}

-- one of two numbers, in an arc of signed numbers that holds the readings of both
one_of : (w : ℕ) (p q : ℤ) (x y : ℕ) (b : Bool) → 1 ≤ w → x < 2 ^ w → y < 2 ^ w → FitsHalf (2 ^ (w - 1)) p → FitsHalf (2 ^ (w - 1)) q
    → p ≤ℤ cond b (signed_of w y) (signed_of w x) → cond b (signed_of w y) (signed_of w x) ≤ℤ q → IsTrue (in_span w (sarc w p q) (cond b y x))
one_of w p q x y true one hx hy f g h k =
    rw (← wrap_of_reading w y hy) (sarc_holds w p q (signed_of w y) one f g h k)
one_of w p q x y false one hx hy f g h k =
    rw (← wrap_of_reading w x hx) (sarc_holds w p q (signed_of w x) one f g h k)

min_fits : (half : ℕ) (p q : ℤ) → FitsHalf half p → FitsHalf half q → FitsHalf half (int_min p q)
min_fits half p q f g = one_fits half p q (int_lt q p) f g
  where
    one_fits : (half : ℕ) (p q : ℤ) (b : Bool) → FitsHalf half p → FitsHalf half q → FitsHalf half (cond b q p)
    one_fits half p q true f g = g
    one_fits half p q false f g = f

max_fits : (half : ℕ) (p q : ℤ) → FitsHalf half p → FitsHalf half q → FitsHalf half (int_max p q)
max_fits half p q f g = one_fits half p q (int_lt q p) f g
  where
    one_fits : (half : ℕ) (p q : ℤ) (b : Bool) → FitsHalf half p → FitsHalf half q → FitsHalf half (cond b p q)
    one_fits half p q true f g = f
    one_fits half p q false f g = g

lesser_between : (p q r s u v : ℤ) (b : Bool) → int_lt v u ≡ b → p ≤ℤ u → u ≤ℤ q → r ≤ℤ v → v ≤ℤ s → (int_min p r ≤ℤ cond b v u) × (cond b v u ≤ℤ int_min q s)
lesser_between p q r s u v true e h k l m = (omega (arith, ints, clamps), omega (arith, ints, clamps))
lesser_between p q r s u v false e h k l m = (omega (arith, ints, clamps), omega (arith, ints, clamps))

greater_between : (p q r s u v : ℤ) (b : Bool) → int_lt u v ≡ b → p ≤ℤ u → u ≤ℤ q → r ≤ℤ v → v ≤ℤ s → (int_max p r ≤ℤ cond b v u) × (cond b v u ≤ℤ int_max q s)
greater_between p q r s u v true e h k l m = (omega (arith, ints, clamps), omega (arith, ints, clamps))
greater_between p q r s u v false e h k l m = (omega (arith, ints, clamps), omega (arith, ints, clamps))

pub smin_holds : (w : ℕ) (a b : EndsOf) → 1 ≤ w → AreEnds w a → AreEnds w b → HoldsResults Smin w a b (Some (smin_row w a b))
unfolding smin_row result_of
smin_holds w a b one ea eb = record {
  holds = λ x y r px py e.
      let z = lesser_between a.slo a.shi b.slo b.shi (signed_of w x) (signed_of w y) (int_lt (signed_of w y) (signed_of w x)) refl
      px.signed_from px.signed_upto py.signed_from py.signed_upto in
      same_result w (signed_minimum w x y) r (smin_row w a b) e
      (one_of w (int_min a.slo b.slo) (int_min a.shi b.shi) x y (int_lt (signed_of w y) (signed_of w x)) one px.fits py.fits
      (min_fits _ a.slo b.slo (slo_fits w a one ea) (slo_fits w b one eb)) (min_fits _ a.shi b.shi (shi_fits w a one ea) (shi_fits w b one eb)) z.0 z.1);
}

pub smax_holds : (w : ℕ) (a b : EndsOf) → 1 ≤ w → AreEnds w a → AreEnds w b → HoldsResults Smax w a b (Some (smax_row w a b))
unfolding smax_row result_of
smax_holds w a b one ea eb = record {
  holds = λ x y r px py e.
      let z = greater_between a.slo a.shi b.slo b.shi (signed_of w x) (signed_of w y) (int_lt (signed_of w x) (signed_of w y)) refl
      px.signed_from px.signed_upto py.signed_from py.signed_upto in
      same_result w (signed_maximum w x y) r (smax_row w a b) e
      (one_of w (int_max a.slo b.slo) (int_max a.shi b.shi) x y (int_lt (signed_of w x) (signed_of w y)) one px.fits py.fits
      (max_fits _ a.slo b.slo (slo_fits w a one ea) (slo_fits w b one eb)) (max_fits _ a.shi b.shi (shi_fits w a one ea) (shi_fits w b one eb)) z.0 z.1);
}
