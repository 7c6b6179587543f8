-- Which numbers an arc between whole numbers holds.
use Rattle.std.proofs.Common.{◌≡◌, ℕ, ◌+◌, ◌-◌, ◌%◌, ◌^◌, ◌<◌, ◌≤◌, Bool, true, false, cond, ℤ, pos, negsuc, refl, ◌∙◌, ap, arith, ◌-ℤ◌, neg_ℤ, suc}
use Rattle.std.specs.Prelude.{IsTrue, ◌≤ℤ◌, ◌<ℤ◌, nat_lt}
use Rattle.std.proofs.Math.Nat.{mod-eq_of_lt, add-mod_left}
use Rattle.std.proofs.lemmas.Bool.Decides.{nat_tests}
use Rattle.std.proofs.lemmas.Int.{ints}
use lib.Signed.{mag}
use Rattle.vfa_word.proofs.Wrapping.{wrap_below}
use Rattle.vfa_word.proofs.Readings.{twice}
use Rattle.vfa_word.specs.Numbers.{wrap, signed_of, fits_signed}
use Rattle.vfa_wrap.specs.Arc.{Span, steps, in_span, full_span, arc_from, sarc}

in_span_when : (w : ℕ) (s : Span) (x : ℕ) → x < 2 ^ w → steps w s.first x ≤ steps w s.first s.last → IsTrue (in_span w s x)
unfolding in_span
in_span_when w s x h k = grind (arith, nat_tests)

-- steps up that do not pass the top
pub steps_up : (m p x : ℕ) → p ≤ x → x < m → (x + (m - p)) % m ≡ x - p
steps_up m p x h k =
    let e : x + (m - p) ≡ m + (x - p) = omega arith in
    ap (λ n. n % m) e ∙ add-mod_left m (x - p) ∙ mod-eq_of_lt (omega arith)

pub full_holds : (w x : ℕ) → x < 2 ^ w → IsTrue (in_span w (full_span w) x)
unfolding steps
full_holds w x h =
    in_span_when w (full_span w) x h
    (omega (arith, steps_up (2 ^ w) 0 x (omega arith) h, steps_up (2 ^ w) 0 (2 ^ w - 1) (omega arith) (omega arith)))

arc_cases : (w p q x : ℕ) (b : Bool) → x < 2 ^ w → steps w p x ≤ steps w p q → IsTrue (in_span w (cond b (full_span w) (record { first = p; last = q })) x)
arc_cases w p q x true h k = full_holds w x h
arc_cases w p q x false h k = in_span_when w (record { first = p; last = q }) x h k

pub arc_holds : (w p q x : ℕ) → p < 2 ^ w → q < 2 ^ w → x < 2 ^ w → steps w p x ≤ steps w p q → IsTrue (in_span w (arc_from w p q) x)
unfolding arc_from
arc_holds w p q x f g h k =
    let e : p % 2 ^ w ≡ p = mod-eq_of_lt f in
    let d : q % 2 ^ w ≡ q = mod-eq_of_lt g in
    arc_cases w (p % 2 ^ w) (q % 2 ^ w) x _ h (rw (e, d) k)

pub arc_from_holds : (w p q x : ℕ) → p ≤ x → x ≤ q → q < 2 ^ w → IsTrue (in_span w (arc_from w p q) x)
unfolding steps
arc_from_holds w p q x h k l =
    arc_holds w p q x (omega arith) l (omega arith)
    (omega (arith, steps_up (2 ^ w) p x h (omega arith), steps_up (2 ^ w) p q (omega arith) l))

-- a number in the signed range, which half of all numbers bounds
abbrev pub FitsHalf : ℕ → ℤ → Type 0
FitsHalf half z = mag z < half

pub fits_tells : (w : ℕ) (z : ℤ) → fits_signed w z ≡ true → FitsHalf (2 ^ (w - 1)) z
fits_tells w (pos n) h = grind (arith, nat_tests)
fits_tells w (negsuc n) h = grind (arith, nat_tests)

pub half_twice : (w : ℕ) → 1 ≤ w → 2 ^ (w - 1) + 2 ^ (w - 1) ≡ 2 ^ w
half_twice w h = omega (arith, twice w h)

-- `wrap` with the number of all numbers in place of the width
abbrev turned : ℕ → ℤ → ℕ
turned m (pos n) = n % m
turned m (negsuc n) = m - 1 - n % m

-- the steps from z up to t
signed_steps : (m half : ℕ) (z t : ℤ) → half + half ≡ m → FitsHalf half z → FitsHalf half t → z ≤ℤ t → pos ((turned m t + (m - turned m z)) % m) ≡ t -ℤ z
signed_steps m half (pos a) (pos b) e f g h =
    let p : a % m ≡ a = mod-eq_of_lt (omega arith) in
    let q : b % m ≡ b = mod-eq_of_lt (omega arith) in
    rw (p, q) (omega (arith, ints, steps_up m a b (omega (arith, ints)) (omega arith)))
signed_steps m half (pos a) (negsuc b) e f g h = absurd h.le
signed_steps m half (negsuc a) (pos b) e f g h =
    let p : a % m ≡ a = mod-eq_of_lt (omega arith) in
    let q : b % m ≡ b = mod-eq_of_lt (omega arith) in
    let r : b + (m - (m - 1 - a)) ≡ b + suc a = omega arith in
    rw (p, q, r) (ap pos (mod-eq_of_lt (omega arith)))
signed_steps m half (negsuc a) (negsuc b) e f g h =
    let p : a % m ≡ a = mod-eq_of_lt (omega arith) in
    let q : b % m ≡ b = mod-eq_of_lt (omega arith) in
    rw (p, q) (omega (arith, ints, steps_up m (m - 1 - a) (m - 1 - b) (omega (arith, ints)) (omega arith)))

wrap_turned : (w : ℕ) (z : ℤ) → wrap w z ≡ turned (2 ^ w) z
wrap_turned w (pos n) = refl
wrap_turned w (negsuc n) = refl

-- the signed range from its least number to its greatest
pub half_in : (half : ℕ) (z : ℤ) → neg_ℤ (pos half) ≤ℤ z → z <ℤ pos half → FitsHalf half z
half_in half (pos n) h k = omega (arith, ints)
half_in half (negsuc n) h k = omega (arith, ints)

pub half_least : (half : ℕ) (z : ℤ) → FitsHalf half z → neg_ℤ (pos half) ≤ℤ z
half_least half (pos n) h = omega (arith, ints)
half_least half (negsuc n) h = omega (arith, ints)

pub half_most : (half : ℕ) (z : ℤ) → FitsHalf half z → z <ℤ pos half
half_most half (pos n) h = omega (arith, ints)
half_most half (negsuc n) h = omega (arith, ints)

pub fits_between : (half : ℕ) (p q z : ℤ) → FitsHalf half p → FitsHalf half q → p ≤ℤ z → z ≤ℤ q → FitsHalf half z
fits_between half p q z f g h k =
    half_in half z (omega (arith, ints, half_least half p f)) (omega (arith, ints, half_most half q g))

-- a signed reading is in the signed range
read_cases : (half m x : ℕ) (b : Bool) → nat_lt x half ≡ b → half + half ≡ m → x < m → FitsHalf half (cond b (pos x) (pos x -ℤ pos m))
read_cases half m x true e d h = grind (arith, nat_tests, e)
read_cases half m x false e d h =
    let k : half ≤ x = grind (arith, nat_tests, e) in
    half_in half (pos x -ℤ pos m) (omega (arith, ints)) (omega (arith, ints))

pub signed_fits : (w x : ℕ) → 1 ≤ w → x < 2 ^ w → FitsHalf (2 ^ (w - 1)) (signed_of w x)
signed_fits w x one h = read_cases (2 ^ (w - 1)) (2 ^ w) x _ refl (half_twice w one) h

-- an arc between signed numbers holds the signed numbers between them
pub sarc_holds : (w : ℕ) (p q z : ℤ) → 1 ≤ w → FitsHalf (2 ^ (w - 1)) p → FitsHalf (2 ^ (w - 1)) q → p ≤ℤ z → z ≤ℤ q → IsTrue (in_span w (sarc w p q) (wrap w z))
unfolding steps
sarc_holds w p q z one f g h k =
    let m : ℕ = 2 ^ w in
    let fz : FitsHalf (2 ^ (w - 1)) z = fits_between _ p q z f g h k in
    let le : p ≤ℤ q = omega (arith, ints) in
    let e = signed_steps (2 ^ w) (2 ^ (w - 1)) p z (half_twice w one) f fz h in
    let d = signed_steps (2 ^ w) (2 ^ (w - 1)) p q (half_twice w one) f g le in
    arc_holds w (wrap w p) (wrap w q) (wrap w z) (wrap_below w p) (wrap_below w q) (wrap_below w z)
    (rw (wrap_turned w p, wrap_turned w q, wrap_turned w z) (omega (arith, ints, e, d)))
