-- The arc of each row holds every result whose operands lie between the ends.
use Rattle.std.proofs.Common.{◌≡◌, ℕ, ◌-◌, ◌*◌, ◌/◌, ◌%◌, ◌^◌, ◌<◌, ◌≤◌, Bool, true, false, cond, refl, ap, subst, inl, inr, arith, Option, Some, None, min, max}
use Rattle.std.specs.Prelude.{IsTrue, IsSomeAnd, bit_and, bit_or, nat_lt, ◌==◌}
use Rattle.std.proofs.lemmas.Nat.{pow_pos, and_le_l, and_le_r, le_or_l, le_or_r, or_lt, le-div, mul-le}
use Rattle.std.proofs.Math.Nat.{mod-eq_of_lt, mod-lt, mod-le, div-le_self, div-mul-le_self}
use Rattle.std.proofs.Math.Pow.{pow_mono}
use Rattle.std.proofs.lemmas.Bool.Decides.{nat_tests}
use Rattle.vfa_wrap.specs.Arc.{Span, in_span, full_span, arc_from}
use Rattle.vfa_wrap.specs.Ends.{EndsOf}
use Rattle.vfa_wrap.specs.Between.{Between, AreEnds}
use Rattle.vfa_wrap.specs.RowResults.{result_of}
use Rattle.vfa_wrap.specs.Rows.{HoldsResults, and_row, or_row, shl_row, lshr_row, udiv_row, urem_row, AreDivisors}
use Rattle.vfa_wrap.specs.declared.ends_op.EndsOp.TheVariants.{And, Or, Shl, Lshr, Udiv, Urem}
use Rattle.vfa_wrap.proofs.RowArcs.{arc_from_holds, full_holds}

-- a result that always comes, and one that comes where a test passes or fails
pub same_result : (w n r : ℕ) (s : Span) → Some n ≡ Some r → IsTrue (in_span w s n) → IsTrue (in_span w s r)
same_result w n r s e h =
    let d : n ≡ r = cc in
    subst (λ (k : ℕ). IsTrue (in_span w s k)) d h

pub passed : (b : Bool) (n r : ℕ) → cond b (Some n) None ≡ Some r → (b ≡ true) × (n ≡ r)
passed true n r e = (refl, cc)
passed false n r e = cc

pub failed : (b : Bool) (n r : ℕ) → cond b None (Some n) ≡ Some r → (b ≡ false) × (n ≡ r)
failed true n r e = cc
failed false n r e = (refl, cc)

-- quotients of greater numbers by lesser ones are greater
pub div_mono : (x y j k : ℕ) → x ≤ y → 0 < k → k ≤ j → x / j ≤ y / k
div_mono x y j k h p l =
    le-div (x / j) y k p (omega (arith, mul-le (x / j) k (x / j) j (omega arith) l, div-mul-le_self x j))

pub and_holds : (w : ℕ) (a b : EndsOf) → AreEnds w a → HoldsResults And w a b (Some (and_row w a b))
unfolding and_row result_of
and_holds w a b ea = record {
  holds = λ x y r px py e.
      same_result w (bit_and x y) r (and_row w a b) e
      (arc_from_holds w 0 (min a.hi b.hi) (bit_and x y) (omega arith)
      (omega (arith, and_le_l x y, and_le_r x y)) (omega (arith, ea.hi.fits)));
}

pub or_holds : (w : ℕ) (a b : EndsOf) → HoldsResults Or w a b (Some (or_row w a b))
unfolding or_row result_of
or_holds w a b = record {
  holds = λ x y r px py e.
      same_result w (bit_or x y) r (or_row w a b) e
      (arc_from_holds w (max a.lo b.lo) (2 ^ w - 1) (bit_or x y)
      (omega (arith, le_or_l x y, le_or_r x y)) (omega (arith, or_lt w x y px.fits py.fits)) (omega (arith, pow_pos w)));
}

pub lshr_holds : (w : ℕ) (a b : EndsOf) → AreEnds w a → HoldsResults Lshr w a b (Some (lshr_row w a b))
unfolding lshr_row result_of
lshr_holds w a b ea = record {
  holds = λ x t r px pt e.
      same_result w (x / 2 ^ t) r (lshr_row w a b) (ap Some (passed _ _ _ e).1)
      (arc_from_holds w (a.lo / 2 ^ b.hi) (a.hi / 2 ^ b.lo) (x / 2 ^ t)
      (div_mono a.lo x (2 ^ b.hi) (2 ^ t) px.from (pow_pos t) (pow_mono pt.upto))
      (div_mono x a.hi (2 ^ t) (2 ^ b.lo) px.upto (pow_pos b.lo) (pow_mono pt.from))
      (omega (arith, ea.hi.fits, div-le_self a.hi (2 ^ b.lo))));
}

shl_cases : (w : ℕ) (a b : EndsOf) (f : Bool) (x t : ℕ) → nat_lt (a.hi * 2 ^ b.hi) (2 ^ w) ≡ f → Between w a x → Between w b t → IsTrue (in_span w (cond f (arc_from w (a.lo * 2 ^ b.lo) (a.hi * 2 ^ b.hi)) (full_span w)) (x * 2 ^ t % 2 ^ w))
shl_cases w a b true x t e px pt =
    let fits : a.hi * 2 ^ b.hi < 2 ^ w = grind (arith, nat_tests, e) in
    let upto : x * 2 ^ t ≤ a.hi * 2 ^ b.hi = mul-le x (2 ^ t) a.hi (2 ^ b.hi) px.upto (pow_mono pt.upto) in
    let whole : x * 2 ^ t % 2 ^ w ≡ x * 2 ^ t = mod-eq_of_lt (omega arith) in
    rw whole
    (arc_from_holds w (a.lo * 2 ^ b.lo) (a.hi * 2 ^ b.hi) (x * 2 ^ t)
    (mul-le a.lo (2 ^ b.lo) x (2 ^ t) px.from (pow_mono pt.from)) upto fits)
shl_cases w a b false x t e px pt = full_holds w (x * 2 ^ t % 2 ^ w) (mod-lt _ (pow_pos w))

pub shl_holds : (w : ℕ) (a b : EndsOf) → HoldsResults Shl w a b (Some (shl_row w a b))
unfolding shl_row result_of
shl_holds w a b = record {
  holds = λ x t r px pt e.
      same_result w (x * 2 ^ t % 2 ^ w) r (shl_row w a b) (ap Some (passed _ _ _ e).1)
      (shl_cases w a b (nat_lt (a.hi * 2 ^ b.hi) (2 ^ w)) x t refl px pt);
}

-- a divisor between the ends that is not 0
pub divisor_lo : (w : ℕ) (b : EndsOf) (y : ℕ) → AreDivisors w b → Between w b y → 0 < y → (0 < b.lo) × (0 < b.hi)
divisor_lo w b y (ends, inl h) py p = (h, omega (arith, py.upto))
divisor_lo w b y (ends, inr h) py p = absurd (omega (arith, py.upto))

pub holds_past : (w r : ℕ) (b : Bool) (o : Option Span) → b ≡ false → IsSomeAnd o (λ s. IsTrue (in_span w s r)) → IsSomeAnd (cond b None o) (λ s. IsTrue (in_span w s r))
holds_past w r true o e h = cc
holds_past w r false o e h = h

pub holds_same : (w n r : ℕ) (o : Option Span) → n ≡ r → IsSomeAnd o (λ s. IsTrue (in_span w s n)) → IsSomeAnd o (λ s. IsTrue (in_span w s r))
holds_same w n r o e h = subst (λ (k : ℕ). IsSomeAnd o (λ s. IsTrue (in_span w s k))) e h

pub not_zero : (n : ℕ) → 0 < n → (n == 0) ≡ false
not_zero n h = grind (arith, nat_tests)

pub quotient_holds : (w : ℕ) (a b : EndsOf) (x y : ℕ) → AreEnds w a → 0 < b.lo → Between w a x → Between w b y → 0 < y → IsTrue (in_span w (arc_from w (a.lo / b.hi) (a.hi / b.lo)) (x / y))
quotient_holds w a b x y ea p px py q =
    arc_from_holds w (a.lo / b.hi) (a.hi / b.lo) (x / y)
    (div_mono a.lo x b.hi y px.from q py.upto) (div_mono x a.hi y b.lo px.upto p py.from)
    (omega (arith, ea.hi.fits, div-le_self a.hi b.lo))

pub udiv_at : (w : ℕ) (a b : EndsOf) (x y : ℕ) → AreEnds w a → AreDivisors w b → Between w a x → Between w b y → 0 < y → IsSomeAnd (udiv_row w a b) (λ s. IsTrue (in_span w s (x / y)))
unfolding udiv_row
udiv_at w a b x y ea eb px py p =
    let d = divisor_lo w b y eb py p in
    holds_past w (x / y) (b.hi == 0) _ (not_zero b.hi d.1) (quotient_holds w a b x y ea d.0 px py p)

pub udiv_holds : (w : ℕ) (a b : EndsOf) → AreEnds w a → AreDivisors w b → HoldsResults Udiv w a b (udiv_row w a b)
unfolding result_of
udiv_holds w a b ea eb = record {
  holds = λ x y r px py e.
      let f = failed _ _ _ e in
      let p : 0 < y = grind (arith, nat_tests, f.0) in
      holds_same w (x / y) r (udiv_row w a b) f.1 (udiv_at w a b x y ea eb px py p);
}

urem_cases : (w : ℕ) (a b : EndsOf) (f : Bool) (x y : ℕ) → nat_lt a.hi b.lo ≡ f → AreEnds w a → 0 < y → Between w a x → Between w b y → IsSomeAnd (cond f (Some (arc_from w a.lo a.hi)) (Some (arc_from w 0 (min a.hi (b.hi - 1))))) (λ s. IsTrue (in_span w s (x % y)))
urem_cases w a b true x y e ea p px py =
    let lt : a.hi < b.lo = grind (arith, nat_tests, e) in
    let whole : x % y ≡ x = mod-eq_of_lt (omega (arith, px.upto, py.from)) in
    rw whole (arc_from_holds w a.lo a.hi x px.from px.upto ea.hi.fits)
urem_cases w a b false x y e ea p px py =
    arc_from_holds w 0 (min a.hi (b.hi - 1)) (x % y) (omega arith)
    (omega (arith, mod-lt x p, mod-le x y, px.upto, py.upto)) (omega (arith, ea.hi.fits))

pub urem_holds : (w : ℕ) (a b : EndsOf) → AreEnds w a → AreDivisors w b → HoldsResults Urem w a b (urem_row w a b)
unfolding urem_row result_of
urem_holds w a b ea eb = record {
  holds = λ x y r px py e.
      let f = failed _ _ _ e in
      let p : 0 < y = grind (arith, nat_tests, f.0) in
      let d = divisor_lo w b y eb py p in
      holds_past w r (b.hi == 0) _ (not_zero b.hi d.1)
      (holds_same w (x % y) r _ f.1 (urem_cases w a b (nat_lt a.hi b.lo) x y refl ea p px py));
}
