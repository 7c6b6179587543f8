-- The arc of the row of products holds every product, and what a signed product wraps to.
use Rattle.std.proofs.Common.{◌≡◌, ℕ, ◌+◌, ◌-◌, ◌*◌, ◌%◌, ◌^◌, ◌<◌, ◌≤◌, Bool, true, false, cond, ℤ, pos, negsuc, neg_ℤ, refl, sym, ◌∙◌, ap, arith, ◌-ℤ◌, suc, zero, Some}
use Rattle.std.specs.Prelude.{IsTrue, ◌≤ℤ◌, ◌*ℤ◌, nat_lt, ◌&&◌}
use Rattle.std.specs.Int.{int_min, int_max}
use Rattle.std.proofs.lemmas.Nat.{pow_pos, mul-le}
use Rattle.std.proofs.lemmas.Int.{ints, clamps}
use Rattle.std.proofs.Math.Nat.{mod-eq_of_lt, mod-lt, add-mul-mod_self_right}
use Rattle.std.proofs.Math.IntN.{*ℤ_comm}
use Rattle.std.proofs.lemmas.Bool.Decides.{nat_tests}
use Rattle.vfa_word.proofs.Wrapping.{wrap_pos, wrap_negative}
use Rattle.vfa_word.specs.Numbers.{wrap, signed_of, fits_signed}
use Rattle.vfa_wrap.specs.Arc.{in_span, full_span, arc_from, sarc}
use Rattle.vfa_wrap.specs.Ends.{EndsOf}
use Rattle.vfa_wrap.specs.Between.{Between}
use Rattle.vfa_wrap.specs.RowResults.{result_of}
use Rattle.vfa_wrap.specs.Rows.{HoldsResults, mul_row, signed_products}
use Rattle.vfa_wrap.specs.WholeSpans.{least_corner, greatest_corner}
use Rattle.vfa_wrap.specs.declared.ends_op.EndsOp.TheVariants.{Mul}
use Rattle.vfa_wrap.proofs.RowArcs.{fits_tells, sarc_holds, arc_from_holds, full_holds}
use Rattle.vfa_wrap.proofs.RowLaws.{same_result}

-- ---- what a signed product wraps to
-- what the negative of n wraps to, where n and m add up to a multiple of all numbers
wrap_neg : (w n m k : ℕ) → n + m ≡ k * 2 ^ w → wrap w (neg_ℤ (pos n)) ≡ m % 2 ^ w
wrap_neg w zero m k e = sym (wrap_pos w m 0 k (omega arith))
wrap_neg w (suc n) m k e = sym (wrap_negative w m n k (omega arith))

both_under : (a b x y m : ℕ) → a + x ≡ m → b + y ≡ m → a * b % m ≡ x * y % m
both_under a b x y m e f =
    let g : a * b + (x + y) * m ≡ x * y + m * m = both_products a b x y m e f in
    sym (add-mul-mod_self_right (a * b) (x + y) m) ∙ ap (λ i. i % m) g ∙ add-mul-mod_self_right (x * y) m m
  where
    both_products : (a b x y m : ℕ) → a + x ≡ m → b + y ≡ m → a * b + (x + y) * m ≡ x * y + m * m
    both_products a b x y m e f =
        let xm : x * m ≡ x * (b + y) = ap (λ i. x * i) (sym f) in
        let ym : y * m ≡ y * (a + x) = ap (λ i. y * i) (sym e) in
        let mm : m * m ≡ (a + x) * (b + y) = ap (λ i. i * m) (sym e) ∙ ap (λ i. (a + x) * i) (sym f) in
        omega (arith, xm, ym, mm)

-- the reading of a number that is not below half of all
under : (m x : ℕ) → x < m → pos x -ℤ pos m ≡ negsuc (m - 1 - x)
under m x h = omega (arith, ints)

times_parts : (n a b m : ℕ) → a + b ≡ m → n * a + n * b ≡ n * m
times_parts n a b m e =
    let d : n * (a + b) ≡ n * m = ap (λ i. n * i) e in
    omega (arith, d)

pub product_cases : (w x y : ℕ) (b c : Bool) → x < 2 ^ w → y < 2 ^ w → wrap w (cond b (pos x) (pos x -ℤ pos (2 ^ w)) *ℤ cond c (pos y) (pos y -ℤ pos (2 ^ w))) ≡ x * y % 2 ^ w
product_cases w x y true true h k = refl
product_cases w x y true false h k =
    rw (under (2 ^ w) y k)
    (wrap_neg w (x * suc (2 ^ w - 1 - y)) (x * y) x (times_parts x (suc (2 ^ w - 1 - y)) y (2 ^ w) (omega arith)))
product_cases w x y false true h k =
    let e : y * suc (2 ^ w - 1 - x) + y * x ≡ y * 2 ^ w =
    times_parts y (suc (2 ^ w - 1 - x)) x (2 ^ w) (omega arith)
    in
    rw (under (2 ^ w) x h) (wrap_neg w (suc (2 ^ w - 1 - x) * y) (x * y) y (omega (arith, e)))
product_cases w x y false false h k =
    rw (under (2 ^ w) x h, under (2 ^ w) y k)
    (both_under (suc (2 ^ w - 1 - x)) (suc (2 ^ w - 1 - y)) x y (2 ^ w) (omega arith) (omega arith))

pub wrap-product : (w x y : ℕ) → x < 2 ^ w → y < 2 ^ w → wrap w (signed_of w x *ℤ signed_of w y) ≡ x * y % 2 ^ w
wrap-product w x y h k = product_cases w x y _ _ h k

-- ---- the least and greatest of the products of ends
pub times_up : (p u : ℤ) (n : ℕ) → p ≤ℤ u → (p *ℤ pos n) ≤ℤ (u *ℤ pos n)
times_up (pos a) (pos b) n h = omega (arith, ints, mul-le a n b n (omega (arith, ints)) (omega arith))
times_up (pos a) (negsuc b) n h = absurd h.le
times_up (negsuc a) (pos b) n h = omega (arith, ints)
times_up (negsuc a) (negsuc b) n h = omega (arith, ints, mul-le (suc b) n (suc a) n (omega (arith, ints)) (omega arith))

times_down : (p u : ℤ) (n : ℕ) → p ≤ℤ u → (u *ℤ negsuc n) ≤ℤ (p *ℤ negsuc n)
times_down (pos a) (pos b) n h = omega (arith, ints, mul-le a (suc n) b (suc n) (omega (arith, ints)) (omega arith))
times_down (pos a) (negsuc b) n h = absurd h.le
times_down (negsuc a) (pos b) n h = omega (arith, ints)
times_down (negsuc a) (negsuc b) n h = omega (arith, ints, mul-le (suc b) (suc n) (suc a) (suc n) (omega (arith, ints)) (omega arith))

between_first : (p q u v : ℤ) → p ≤ℤ u → u ≤ℤ q → (int_min (p *ℤ v) (q *ℤ v) ≤ℤ (u *ℤ v)) × ((u *ℤ v) ≤ℤ int_max (p *ℤ v) (q *ℤ v))
between_first p q u (pos n) h k =
    (omega (arith, ints, clamps, times_up p u n h), omega (arith, ints, clamps, times_up u q n k))
between_first p q u (negsuc n) h k =
    (omega (arith, ints, clamps, times_down u q n k), omega (arith, ints, clamps, times_down p u n h))

between_second : (p u r s : ℤ) → r ≤ℤ u → u ≤ℤ s → (int_min (p *ℤ r) (p *ℤ s) ≤ℤ (p *ℤ u)) × ((p *ℤ u) ≤ℤ int_max (p *ℤ r) (p *ℤ s))
between_second p u r s h k = rw (*ℤ_comm p r, *ℤ_comm p s, *ℤ_comm p u) (between_first r s u p h k)

pub between_products : (p q r s u v : ℤ) → p ≤ℤ u → u ≤ℤ q → r ≤ℤ v → v ≤ℤ s → (least_corner p q r s ≤ℤ (u *ℤ v)) × ((u *ℤ v) ≤ℤ greatest_corner p q r s)
between_products p q r s u v h k l m =
    let a = between_first p q u v h k in
    let b = between_second p v r s l m in
    let c = between_second q v r s l m in
    (omega (arith, ints, clamps, a.0, b.0, c.0), omega (arith, ints, clamps, a.1, b.1, c.1))

-- ---- the law
signed_cases : (w : ℕ) (least most z : ℤ) (x : ℕ) (b c : Bool) → 1 ≤ w → fits_signed w least ≡ b → fits_signed w most ≡ c → least ≤ℤ z → z ≤ℤ most → wrap w z ≡ x → x < 2 ^ w → IsTrue (in_span w (cond (b && c) (sarc w least most) (full_span w)) x)
signed_cases w least most z x true true one f g h k e l =
    rw (← e) (sarc_holds w least most z one (fits_tells w least f) (fits_tells w most g) h k)
signed_cases w least most z x true false one f g h k e l = full_holds w x l
signed_cases w least most z x false c one f g h k e l = full_holds w x l

mul_cases : (w : ℕ) (a b : EndsOf) (x y : ℕ) (f : Bool) → 1 ≤ w → nat_lt (a.hi * b.hi) (2 ^ w) ≡ f → Between w a x → Between w b y → IsTrue (in_span w (cond f (arc_from w (a.lo * b.lo) (a.hi * b.hi)) (signed_products w (least_corner a.slo a.shi b.slo b.shi) (greatest_corner a.slo a.shi b.slo b.shi))) (x * y % 2 ^ w))
mul_cases w a b x y true one e px py =
    let fits : a.hi * b.hi < 2 ^ w = grind (arith, nat_tests, e) in
    let upto : x * y ≤ a.hi * b.hi = mul-le x y a.hi b.hi px.upto py.upto in
    let whole : x * y % 2 ^ w ≡ x * y = mod-eq_of_lt (omega arith) in
    rw whole (arc_from_holds w (a.lo * b.lo) (a.hi * b.hi) (x * y) (mul-le a.lo b.lo x y px.from py.from) upto fits)
mul_cases w a b x y false one e px py =
    let z = between_products a.slo a.shi b.slo b.shi (signed_of w x) (signed_of w y) px.signed_from px.signed_upto py.signed_from py.signed_upto in
    signed_cases w (least_corner a.slo a.shi b.slo b.shi) (greatest_corner a.slo a.shi b.slo b.shi) (signed_of w x *ℤ signed_of w y) (x * y % 2 ^ w) _ _ one refl refl z.0 z.1
    (wrap-product w x y px.fits py.fits) (mod-lt _ (pow_pos w))

pub mul_holds : (w : ℕ) (a b : EndsOf) → 1 ≤ w → HoldsResults Mul w a b (Some (mul_row w a b))
unfolding mul_row result_of
mul_holds w a b one = record {
  holds = λ x y r px py e.
      same_result w (x * y % 2 ^ w) r (mul_row w a b) e (mul_cases w a b x y _ one refl px py);
}
