-- The arcs of the signed rows hold every result whose operands lie between the ends.
use Rattle.std.proofs.Common.{◌≡◌, ℕ, ◌+◌, ◌-◌, ◌/◌, ◌%◌, ◌^◌, ◌<◌, ◌≤◌, Bool, true, false, cond, ℤ, pos, negsuc, neg_ℤ, refl, ap, subst, arith, ◌-ℤ◌, suc, zero, Some, min, max}
use Rattle.std.specs.Prelude.{IsTrue, IsSomeAnd, ◌≤ℤ◌, ◌<ℤ◌, int_lt, int_le, int_div, int_rem, unsigned_abs, nat_lt, ◌==◌, ◌&&◌}
use Rattle.std.specs.Int.{int_min, int_max}
use Rattle.std.proofs.lemmas.Nat.{pow_pos}
use Rattle.std.proofs.lemmas.Int.{ints, clamps, rem_below}
use Rattle.std.proofs.Math.Nat.{mod-eq_of_lt, mod-le, div-le_self}
use Rattle.std.proofs.Math.Pow.{pow_mono}
use Rattle.vfa_word.specs.Numbers.{wrap, signed_of, floor_div, fits_signed}
use Rattle.vfa_wrap.specs.Arc.{in_span}
use Rattle.vfa_wrap.specs.Ends.{EndsOf}
use Rattle.vfa_wrap.specs.Between.{Between, AreEnds}
use Rattle.vfa_wrap.specs.RowResults.{result_of, divides_signed}
use Rattle.vfa_wrap.specs.Rows.{HoldsResults, ashr_row, udiv_row, sdiv_row, srem_row, least_remainder, greatest_remainder, AreDivisors, size_of, near_quotients}
use Rattle.vfa_wrap.specs.declared.ends_op.EndsOp.TheVariants.{Ashr, Sdiv, Srem}
use Rattle.vfa_wrap.proofs.RowArcs.{FitsHalf, half_in, half_least, half_most, fits_tells, half_twice, signed_fits, sarc_holds}
use Rattle.vfa_word.proofs.Wrapping.{wrap_below}
use Rattle.vfa_wrap.proofs.RowLaws.{passed, same_result, div_mono, holds_past, holds_same, not_zero, udiv_at}

-- the signed ends are in the signed range
pub slo_fits : (w : ℕ) (e : EndsOf) → 1 ≤ w → AreEnds w e → FitsHalf (2 ^ (w - 1)) e.slo
slo_fits w e one h =
    subst (λ (z : ℤ). FitsHalf (2 ^ (w - 1)) z) h.slo_read (signed_fits w (wrap w e.slo) one (wrap_below w e.slo))

pub shi_fits : (w : ℕ) (e : EndsOf) → 1 ≤ w → AreEnds w e → FitsHalf (2 ^ (w - 1)) e.shi
shi_fits w e one h =
    subst (λ (z : ℤ). FitsHalf (2 ^ (w - 1)) z) h.shi_read (signed_fits w (wrap w e.shi) one (wrap_below w e.shi))

-- ---- shifts that copy the sign
floor_mono : (z t : ℤ) (n : ℕ) → 0 < n → z ≤ℤ t → floor_div z n ≤ℤ floor_div t n
floor_mono (pos a) (pos b) n p h = omega (arith, ints, div_mono a b n n (omega (arith, ints)) p (omega arith))
floor_mono (pos a) (negsuc b) n p h = absurd h.le
floor_mono (negsuc a) (pos b) n p h = omega (arith, ints)
floor_mono (negsuc a) (negsuc b) n p h = omega (arith, ints, div_mono b a n n (omega (arith, ints)) p (omega arith))

-- the further a number is shifted, the nearer it comes to 0, or to -1 where it is negative
floor_falls : (z : ℤ) (n k : ℕ) → 0 < n → n ≤ k → pos 0 ≤ℤ z → floor_div z k ≤ℤ floor_div z n
floor_falls (pos a) n k p h l = omega (arith, ints, div_mono a a k n (omega arith) p h)
floor_falls (negsuc a) n k p h l = absurd l.le

floor_rises : (z : ℤ) (n k : ℕ) → 0 < n → n ≤ k → z <ℤ pos 0 → floor_div z n ≤ℤ floor_div z k
floor_rises (pos a) n k p h l = absurd (omega (arith, ints))
floor_rises (negsuc a) n k p h l = omega (arith, ints, div_mono a a k n (omega arith) p h)

floor_fits : (half : ℕ) (z : ℤ) (n : ℕ) → FitsHalf half z → FitsHalf half (floor_div z n)
floor_fits half (pos a) n h = omega (arith, div-le_self a n)
floor_fits half (negsuc a) n h = omega (arith, div-le_self a n)

shifted_from : (e z : ℤ) (lo hi t : ℕ) (b : Bool) → int_lt e (pos 0) ≡ b → e ≤ℤ z → lo ≤ t → t ≤ hi → floor_div e (2 ^ cond b lo hi) ≤ℤ floor_div z (2 ^ t)
shifted_from e z lo hi t true f h k l =
    omega (arith, ints, floor_rises e (2 ^ lo) (2 ^ t) (pow_pos lo) (pow_mono k) (omega (arith, ints)), floor_mono e z (2 ^ t) (pow_pos t) h)
shifted_from e z lo hi t false f h k l =
    omega (arith, ints, floor_falls e (2 ^ t) (2 ^ hi) (pow_pos t) (pow_mono l) (omega (arith, ints)), floor_mono e z (2 ^ t) (pow_pos t) h)

shifted_upto : (e z : ℤ) (lo hi t : ℕ) (b : Bool) → int_lt e (pos 0) ≡ b → z ≤ℤ e → lo ≤ t → t ≤ hi → floor_div z (2 ^ t) ≤ℤ floor_div e (2 ^ cond b hi lo)
shifted_upto e z lo hi t true f h k l =
    omega (arith, ints, floor_rises e (2 ^ t) (2 ^ hi) (pow_pos t) (pow_mono l) (omega (arith, ints)), floor_mono z e (2 ^ t) (pow_pos t) h)
shifted_upto e z lo hi t false f h k l =
    omega (arith, ints, floor_falls e (2 ^ lo) (2 ^ t) (pow_pos lo) (pow_mono k) (omega (arith, ints)), floor_mono z e (2 ^ t) (pow_pos t) h)

pub ashr_holds : (w : ℕ) (a b : EndsOf) → 1 ≤ w → AreEnds w a → HoldsResults Ashr w a b (Some (ashr_row w a b))
unfolding ashr_row result_of
ashr_holds w a b one ea = record {
  holds = λ x t r px pt e.
      same_result w (wrap w (floor_div (signed_of w x) (2 ^ t))) r (ashr_row w a b) (ap Some (passed _ _ _ e).1)
      (sarc_holds w _ _ (floor_div (signed_of w x) (2 ^ t)) one
      (floor_fits _ a.slo _ (slo_fits w a one ea)) (floor_fits _ a.shi _ (shi_fits w a one ea))
      (shifted_from a.slo (signed_of w x) b.lo b.hi t _ refl px.signed_from pt.from pt.upto)
      (shifted_upto a.shi (signed_of w x) b.lo b.hi t _ refl px.signed_upto pt.from pt.upto));
}

-- ---- signed quotients and remainders
divides_tells : (w x y r : ℕ) (z : ℤ) → divides_signed w x y (wrap w z) ≡ Some r → (0 < y) × (fits_signed w (int_div (signed_of w x) (signed_of w y)) ≡ true) × (wrap w z ≡ r)
divides_tells w x zero r z e = cc
divides_tells w x (suc y) r z e =
    let f = passed _ _ _ e in
    (omega arith, f.0, f.1)

read_size : (half m y : ℕ) (b : Bool) → half + half ≡ m → 0 < y → y < m → 0 < unsigned_abs (cond b (pos y) (pos y -ℤ pos m))
read_size half m y true d p h = omega arith
read_size half m y false d p h = omega (arith, ints)

-- a number that is not 0 does not read as 0
pub signed_size : (w y : ℕ) → 1 ≤ w → 0 < y → y < 2 ^ w → 0 < unsigned_abs (signed_of w y)
signed_size w y one p h = read_size (2 ^ (w - 1)) (2 ^ w) y _ (half_twice w one) p h

read_positive : (m x : ℕ) (b : Bool) → x < m → pos 0 ≤ℤ cond b (pos x) (pos x -ℤ pos m) → cond b (pos x) (pos x -ℤ pos m) ≡ pos x
read_positive m x true h k = refl
read_positive m x false h k = absurd (omega (arith, ints))

-- a number that does not read as negative reads as itself
signed_positive : (w x : ℕ) → x < 2 ^ w → pos 0 ≤ℤ signed_of w x → signed_of w x ≡ pos x
signed_positive w x h k = read_positive (2 ^ w) x (nat_lt x (2 ^ (w - 1))) h k

pub size_bound : (w : ℕ) (e : EndsOf) (x : ℕ) → Between w e x → unsigned_abs (signed_of w x) ≤ size_of e
unfolding size_of
size_bound w e x p = between_size e.slo e.shi (signed_of w x) p.signed_from p.signed_upto
  where
    between_size : (p q z : ℤ) → p ≤ℤ z → z ≤ℤ q → unsigned_abs z ≤ max (unsigned_abs p) (unsigned_abs q)
    between_size p q z h k = omega (arith, ints)

half_size : (half : ℕ) (z : ℤ) → FitsHalf half z → unsigned_abs z ≤ half
half_size half (pos n) h = omega arith
half_size half (negsuc n) h = omega arith

size_fits : (w : ℕ) (e : EndsOf) → 1 ≤ w → AreEnds w e → size_of e ≤ 2 ^ (w - 1)
unfolding size_of
size_fits w e one h = omega (arith, half_size _ e.slo (slo_fits w e one h), half_size _ e.shi (shi_fits w e one h))

quotient_size : (z d : ℤ) → unsigned_abs (int_div z d) ≤ unsigned_abs z
quotient_size (pos a) (pos b) = div-le_self a b
quotient_size (pos a) (negsuc b) = omega (arith, ints, div-le_self a (suc b))
quotient_size (negsuc a) (pos b) = omega (arith, ints, div-le_self (suc a) b)
quotient_size (negsuc a) (negsuc b) = div-le_self (suc a) (suc b)

within_size : (z : ℤ) (n : ℕ) → unsigned_abs z ≤ n → (neg_ℤ (pos n) ≤ℤ z) × (z ≤ℤ pos n)
within_size z n h = (omega (arith, ints), omega (arith, ints))

sdiv_far : (w : ℕ) (a b : EndsOf) (x y : ℕ) → 1 ≤ w → AreEnds w a → Between w a x → fits_signed w (int_div (signed_of w x) (signed_of w y)) ≡ true → IsTrue (in_span w (near_quotients w a) (wrap w (int_div (signed_of w x) (signed_of w y))))
unfolding near_quotients
sdiv_far w a b x y one ea px g =
    let half : ℕ = 2 ^ (w - 1) in
    let z : ℤ = int_div (signed_of w x) (signed_of w y) in
    let fits : FitsHalf (2 ^ (w - 1)) z = fits_tells w z g in
    let near : unsigned_abs z ≤ size_of a =
    omega (arith, quotient_size (signed_of w x) (signed_of w y), size_bound w a x px) in
    let sides = within_size z (size_of a) near in
    let small : size_of a ≤ 2 ^ (w - 1) = size_fits w a one ea in
    sarc_holds w (neg_ℤ (pos (size_of a))) (pos (min (size_of a) (2 ^ (w - 1) - 1))) z one
    (half_in _ (neg_ℤ (pos (size_of a))) (omega (arith, ints, small)) (omega (arith, ints, pow_pos (w - 1))))
    (omega (arith, pow_pos (w - 1)))
    sides.0 (omega (arith, ints, sides.1, half_most _ z fits))

sdiv_cases : (w : ℕ) (a b : EndsOf) (c d : Bool) (x y : ℕ) → 1 ≤ w → int_le (pos 0) a.slo ≡ c → int_le (pos 0) b.slo ≡ d → AreEnds w a → AreDivisors w b → Between w a x → Between w b y → 0 < y → fits_signed w (int_div (signed_of w x) (signed_of w y)) ≡ true → IsSomeAnd (cond (c && d) (udiv_row w a b) (Some (near_quotients w a))) (λ s. IsTrue (in_span w s (wrap w (int_div (signed_of w x) (signed_of w y)))))
sdiv_cases w a b true true x y one e f ea eb px py p g =
    let sx : signed_of w x ≡ pos x = signed_positive w x px.fits (omega (arith, ints, e, px.signed_from)) in
    let sy : signed_of w y ≡ pos y = signed_positive w y py.fits (omega (arith, ints, f, py.signed_from)) in
    let whole : x / y % 2 ^ w ≡ x / y = mod-eq_of_lt (omega (arith, px.fits, div-le_self x y)) in
    rw (sx, sy) (rw whole (udiv_at w a b x y ea eb px py p))
sdiv_cases w a b true false x y one e f ea eb px py p g = sdiv_far w a b x y one ea px g
sdiv_cases w a b false d x y one e f ea eb px py p g = sdiv_far w a b x y one ea px g

pub sdiv_holds : (w : ℕ) (a b : EndsOf) → 1 ≤ w → AreEnds w a → AreDivisors w b → HoldsResults Sdiv w a b (sdiv_row w a b)
unfolding sdiv_row result_of
sdiv_holds w a b one ea eb = record {
  holds = λ x y r px py e.
      let d = divides_tells w x y r _ e in
      let some : 0 < size_of b = omega (arith, signed_size w y one d.0 py.fits, size_bound w b y py) in
      holds_past w r (size_of b == 0) _ (not_zero (size_of b) some)
      (holds_same w (wrap w (int_div (signed_of w x) (signed_of w y))) r _ d.2
      (sdiv_cases w a b _ _ x y one refl refl ea eb px py d.0 d.1));
}

remainder_least : (e z d : ℤ) → e ≤ℤ z → e ≤ℤ pos 0 → e ≤ℤ int_rem z d
remainder_least e (pos a) d h k = omega (arith, ints)
remainder_least e (negsuc a) d h k = omega (arith, ints, mod-le (suc a) (unsigned_abs d))

remainder_most : (e z d : ℤ) → z ≤ℤ e → pos 0 ≤ℤ e → int_rem z d ≤ℤ e
remainder_most e (pos a) d h k = omega (arith, ints, mod-le a (unsigned_abs d))
remainder_most e (negsuc a) d h k = omega (arith, ints)

least_holds : (e z d : ℤ) (n half : ℕ) (b : Bool) → int_le (pos 0) e ≡ b → e ≤ℤ z → unsigned_abs (int_rem z d) < n → n ≤ half → FitsHalf half e → (cond b (pos 0) (int_max e (pos 1 -ℤ pos n)) ≤ℤ int_rem z d) × FitsHalf half (cond b (pos 0) (int_max e (pos 1 -ℤ pos n)))
least_holds e z d n half true f h k l g =
    (remainder_least (pos 0) z d (omega (arith, ints)) (omega (arith, ints)), omega arith)
least_holds e z d n half false f h k l g = (
  omega (arith, ints, clamps, remainder_least e z d h (omega (arith, ints))),
  half_in half (int_max e (pos 1 -ℤ pos n)) (omega (arith, ints, clamps, half_least half e g)) (omega (arith, ints, clamps)),
)

greatest_holds : (e z d : ℤ) (n half : ℕ) (b : Bool) → int_le e (pos 0) ≡ b → z ≤ℤ e → unsigned_abs (int_rem z d) < n → n ≤ half → FitsHalf half e → (int_rem z d ≤ℤ cond b (pos 0) (int_min e (pos n -ℤ pos 1))) × FitsHalf half (cond b (pos 0) (int_min e (pos n -ℤ pos 1)))
greatest_holds e z d n half true f h k l g =
    (remainder_most (pos 0) z d (omega (arith, ints)) (omega (arith, ints)), omega arith)
greatest_holds e z d n half false f h k l g = (
  omega (arith, ints, clamps, remainder_most e z d h (omega (arith, ints))),
  half_in half (int_min e (pos n -ℤ pos 1)) (omega (arith, ints, clamps)) (omega (arith, ints, clamps, half_most half e g)),
)

pub srem_holds : (w : ℕ) (a b : EndsOf) → 1 ≤ w → AreEnds w a → AreDivisors w b → HoldsResults Srem w a b (srem_row w a b)
unfolding srem_row result_of least_remainder greatest_remainder
srem_holds w a b one ea eb = record {
  holds = λ x y r px py e.
      let d = divides_tells w x y r _ e in
      let sx : ℤ = signed_of w x in
      let sy : ℤ = signed_of w y in
      let z : ℤ = int_rem sx sy in
      let some : 0 < unsigned_abs sy = signed_size w y one d.0 py.fits in
      let upto : unsigned_abs sy ≤ size_of b = size_bound w b y py in
      let near : unsigned_abs z < size_of b = omega (arith, rem_below sx sy some) in
      let small : size_of b ≤ 2 ^ (w - 1) = size_fits w b one (eb.0) in
      let l = least_holds a.slo sx sy (size_of b) (2 ^ (w - 1)) _ refl px.signed_from near small (slo_fits w a one ea) in
      let g = greatest_holds a.shi sx sy (size_of b) (2 ^ (w - 1)) _ refl px.signed_upto near small (shi_fits w a one ea) in
      holds_past w r (size_of b == 0) _ (not_zero (size_of b) (omega arith))
      (same_result w (wrap w z) r _ (ap Some d.2)
      (sarc_holds w (least_remainder a (size_of b)) (greatest_remainder a (size_of b)) z one l.1 g.1 l.0 g.0));
}
