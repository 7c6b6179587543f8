-- Signed readings, and tests of the signed and unsigned ranges.
use Rattle.std.proofs.Common.{◌-ℤ◌, ◌%◌, ltb-true, lt-ltb, mod-eq_of_lt, ◌≡◌, ℕ, zero, suc, ◌+◌, ◌-◌, ◌*◌, ◌/◌, ◌^◌, ◌<◌, ◌≤◌, refl, sym, ◌∙◌, ap, arith, Bool, true, false, not, ◌&&◌, nat_lt, nat_le, ℤ, pos, negsuc, ◌*ℤ◌, neg_ℤ, int_le, int_div, FitsSigned, subst, pow_mono, pow-suc, ◌⊎◌, inl, inr, mul-lt-mul_of_pos_right, mul-le-mul_right, suc-mul, ◌≢◌}
use Rattle.std.proofs.lemmas.Nat.{pow_pos}
use Rattle.std.proofs.lemmas.Nat.Bits.{ones_shr}
use Rattle.std.proofs.Math.Nat.{div-lt_iff_lt-mul, div-le_self, div-one, div-lt_self}
use Rattle.std.proofs.lemmas.Int.{ints}
use Rattle.std.proofs.lemmas.Bool.{cases_lt}
use Rattle.std.proofs.lemmas.Bool.Decides.{nat_tests}
use Rattle.std.specs.Int.{w128}
use lib.Signed.{mag}
use Rattle.vfa_word.specs.Numbers.{IsWidth, wrap, signed_of, fits_signed, whole_result}
use Rattle.vfa_word.specs.declared.arith.Arith.{Arith}
use Rattle.vfa_word.specs.declared.arith.Arith.TheVariants.{Shl}
use Rattle.vfa_word.proofs.Wrapping.{power_split}

-- a whole number that 128 bits don't hold is out of the signed range of every width
pub out_of_signed_range : (w : ℕ) (z : ℤ) → w ≤ 128 → ¬ (FitsSigned w128 z) → true ≡ not (fits_signed w z)
out_of_signed_range w (pos n) h f =
    let l : 2 ^ (w - 1) ≤ 2 ^ 127 = pow_mono {i = w - 1} {j = 127} (omega arith) in
    let g : n < 2 ^ 127 → ⊥ = λ b. f (record { sfits = b }) in
    grind (arith, nat_tests)
out_of_signed_range w (negsuc n) h f =
    let l : 2 ^ (w - 1) ≤ 2 ^ 127 = pow_mono {i = w - 1} {j = 127} (omega arith) in
    let g : n < 2 ^ 127 → ⊥ = λ b. f (record { sfits = b }) in
    grind (arith, nat_tests)

pub out_of_unsigned_range : (w n : ℕ) → w ≤ 128 → ¬ (n < 2 ^ 128) → true ≡ not (nat_lt n (2 ^ w))
out_of_unsigned_range w n h f =
    let l : 2 ^ w ≤ 2 ^ 128 = pow_mono {i = w} {j = 128} h in
    grind (arith, nat_tests)

-- a power of 2 is twice the one before it
pub twice : (w : ℕ) → 1 ≤ w → 2 ^ w ≡ 2 * 2 ^ (w - 1)
twice w h =
    let e : w ≡ suc (w - 1) = omega arith in
    let f : 2 ^ w ≡ 2 ^ suc (w - 1) = ap (λ k. 2 ^ k) e in
    omega (arith, f, pow-suc 2 (w - 1))

-- every width of an amount holds the amount as a reading that is not negative
pub below_power : (n : ℕ) → n < 2 ^ n
below_power zero = omega arith
below_power (suc n) = omega (arith, below_power n, pow-suc 2 n)

pub below_half : (w t : ℕ) → t < w → t < 2 ^ (w - 1)
below_half w t h =
    let l : 2 ^ t ≤ 2 ^ (w - 1) = pow_mono {i = t} {j = w - 1} (omega arith) in
    omega (arith, below_power t, l)

pub signed_of_amount : (w t : ℕ) → t < w → signed_of w t ≡ pos t
signed_of_amount w t h =
    let l : t < 2 ^ (w - 1) = below_half w t h in
    grind (arith, nat_tests)

-- the shift of n by t leaves the range below 2^w exactly where n is above the shifted mask
pub shifted_unsigned : (w t n m : ℕ) → m + 1 ≡ 2 ^ w → nat_lt (m / 2 ^ t) n ≡ not (nat_lt (n * 2 ^ t) (2 ^ w))
shifted_unsigned w t n m e =
    let i = div-lt_iff_lt-mul {k = 2 ^ t} {x = m} {y = n} (pow_pos t) in
    let to : m / 2 ^ t < n → m < n * 2 ^ t = i.0 in
    let from : m < n * 2 ^ t → m / 2 ^ t < n = i.1 in
    grind (arith, nat_tests)

times_below : (n d e : ℕ) → zero < d → zero < e → nat_le n (e - 1) ≡ nat_lt (n * d) (e * d)
times_below n d e p q =
    let f : (n < e) ⊎ (e ≤ n) → nat_le n (e - 1) ≡ nat_lt (n * d) (e * d) = λ s. elim s [
      | inl h ↦ let k : n * d < e * d = mul-lt-mul_of_pos_right h p in grind (arith, nat_tests)
      | inr h ↦ let k : e * d ≤ n * d = mul-le-mul_right d h in grind (arith, nat_tests)
    ] in
    f (cases_lt n e)

times_negative : (n d e : ℕ) → zero < d → zero < e → nat_le n (e - 1) ≡ nat_lt (suc n * d - 1) (e * d)
times_negative n d e p q =
    let r : zero * d < e * d = mul-lt-mul_of_pos_right q p in
    let f : (n < e) ⊎ (e ≤ n) → nat_le n (e - 1) ≡ nat_lt (suc n * d - 1) (e * d) = λ s. elim s [
      | inl h ↦ let k : suc n * d ≤ e * d = mul-le-mul_right d h in grind (arith, nat_tests)
      | inr h ↦ let k : e * d ≤ n * d = mul-le-mul_right d h in
          let j : suc n * d ≡ n * d + d = suc-mul n d in grind (arith, nat_tests)
    ] in
    f (cases_lt n e)

fits_negated : (w k : ℕ) → fits_signed w (neg_ℤ (pos k)) ≡ nat_lt (k - 1) (2 ^ (w - 1))
fits_negated w zero = refl
fits_negated w (suc k) = ap (λ j. nat_lt j (2 ^ (w - 1))) (omega arith)

-- half of the mask, shifted
narrowed : (w t m : ℕ) → t < w → m + 1 ≡ 2 ^ w → m / 2 / 2 ^ t ≡ 2 ^ (w - 1 - t) - 1
narrowed w t m h e =
    let k : m / 2 ≡ 2 ^ (w - 1) - 1 = omega (arith, twice w (omega arith)) in
    ap (λ j. j / 2 ^ t) k ∙ ones_shr (w - 1) t (omega arith)

and_true : (b : Bool) → b && true ≡ b
and_true b = elim b as (λ c. c && true ≡ c) [ true ↦ refl | false ↦ refl ]

signed_product : (w t : ℕ) (z : ℤ) → t < w
    → (int_le (negsuc (2 ^ (w - 1 - t) - 1)) z && int_le z (pos (2 ^ (w - 1 - t) - 1))) ≡ fits_signed w (z *ℤ pos (2 ^ t))
signed_product w t (pos n) h =
    times_below n (2 ^ t) (2 ^ (w - 1 - t)) (pow_pos t) (pow_pos (w - 1 - t))
    ∙ ap (λ j. nat_lt (n * 2 ^ t) j) (sym (power_split (w - 1) t (omega arith)))
signed_product w t (negsuc n) h =
    simp and_true
    (times_negative n (2 ^ t) (2 ^ (w - 1 - t)) (pow_pos t) (pow_pos (w - 1 - t))
    ∙ ap (λ j. nat_lt (suc n * 2 ^ t - 1) j) (sym (power_split (w - 1) t (omega arith)))
    ∙ sym (fits_negated w (suc n * 2 ^ t)))

-- the shift of a reading by t leaves the signed range exactly where the reading is out of the range narrower by t
pub shifted_signed : (w t m : ℕ) (z : ℤ) → t < w → m + 1 ≡ 2 ^ w
    → not (int_le (negsuc (m / 2 / 2 ^ t)) z && int_le z (pos (m / 2 / 2 ^ t))) ≡ not (fits_signed w (z *ℤ pos (2 ^ t)))
shifted_signed w t m z h e =
    ap (λ k. not (int_le (negsuc k) z && int_le z (pos k))) (narrowed w t m h e) ∙ ap not (signed_product w t z h)

-- the number of which -(a + 1) is the reading
pub signed_negative : (w x a : ℕ) → negsuc a ≡ signed_of w x → (x + suc a ≡ 2 ^ w) × (2 ^ (w - 1) ≤ x)
signed_negative w x a e =
    let f : (x < 2 ^ (w - 1)) ⊎ (2 ^ (w - 1) ≤ x) → (x + suc a ≡ 2 ^ w) × (2 ^ (w - 1) ≤ x) = λ s. elim s [
      | inl h ↦ grind (arith, nat_tests, ints)
      | inr h ↦ grind (arith, nat_tests, ints)
    ] in
    f (cases_lt x (2 ^ (w - 1)))

size_of_negated : (n : ℕ) → mag (neg_ℤ (pos n)) ≡ n - 1
size_of_negated zero = refl
size_of_negated (suc n) = omega arith

-- the quotient of two readings is in the range of 128 bits, unless it is the least reading by -1
pub quotient_fits : (w x y : ℕ) (a b : ℤ) → IsWidth w → a ≡ signed_of w x → b ≡ signed_of w y → (y ≡ 2 ^ w - 1 → x ≢ 2 ^ (w - 1))
    → FitsSigned w128 a → FitsSigned w128 (int_div a b)
quotient_fits w x y (pos a) (pos b) i e f h r = record { sfits = omega (arith, r.sfits, div-le_self a b) }
quotient_fits w x y (pos a) (negsuc b) i e f h r =
    record { sfits = omega (arith, r.sfits, div-le_self a (suc b), size_of_negated (a / suc b)) }
quotient_fits w x y (negsuc a) (pos b) i e f h r =
    record { sfits = omega (arith, r.sfits, div-le_self (suc a) b, size_of_negated (suc a / b)) }
quotient_fits w x y (negsuc a) (negsuc zero) i e f h r =
    let p : (x + suc a ≡ 2 ^ w) × (2 ^ (w - 1) ≤ x) = signed_negative w x a e in
    let q : y + 1 ≡ 2 ^ w = (signed_negative w y zero f).0 in
    let k : x ≢ 2 ^ (w - 1) = h (omega arith) in
    let l : 2 ^ (w - 1) ≤ 2 ^ 127 = pow_mono {i = w - 1} {j = 127} (omega arith) in
    record { sfits = omega (arith, r.sfits, div-one (suc a), twice w (i.least)) }
quotient_fits w x y (negsuc a) (negsuc (suc b)) i e f h r =
    record { sfits = omega (arith, r.sfits, div-lt_self {n = suc a} {k = suc (suc b)} (omega arith) (omega arith)) }

-- a whole number, made of readings, that 128 bits don't hold
pub beyond_range : (w : ℕ) (z y : ℤ) → w ≤ 128 → y ≡ z → ¬ (FitsSigned w128 y) → true ≡ not (fits_signed w z)
beyond_range w z y h e f = out_of_signed_range w z h (λ g. f (subst (FitsSigned w128) (sym e) g))

-- a shift by t multiplies by 2^t
pub shift_result : (op : Arith) (x y : ℤ) (t : ℕ) → op ≡ Shl → y ≡ pos t → whole_result op x y ≡ x *ℤ pos (2 ^ t)
shift_result op x y t e f = λ i. whole_result (e i) x (f i)

-- the reading of a number without its sign bit, and of one with it
pub reading_low : (w x : ℕ) → x < 2 ^ (w - 1) → signed_of w x ≡ pos x
reading_low w x h = grind (arith, nat_tests)

less_is_negative : (x p : ℕ) (z : ℤ) → z ≡ pos x -ℤ pos p → x < p → z ≡ negsuc (p - 1 - x)
less_is_negative x p (pos n) e h = absurd (omega (arith, ints))
less_is_negative x p (negsuc n) e h = ap negsuc (omega (arith, ints))

pub reading_high : (w x : ℕ) → 2 ^ (w - 1) ≤ x → x < 2 ^ w → signed_of w x ≡ negsuc (2 ^ w - 1 - x)
reading_high w x h l =
    let e : signed_of w x ≡ pos x -ℤ pos (2 ^ w) = grind (arith, nat_tests) in
    e ∙ less_is_negative x (2 ^ w) (pos x -ℤ pos (2 ^ w)) refl l

-- a number is what its reading wraps to
pub wrap_of_reading : (w x : ℕ) → x < 2 ^ w → wrap w (signed_of w x) ≡ x
wrap_of_reading w x l =
    let f : (x < 2 ^ (w - 1)) ⊎ (2 ^ (w - 1) ≤ x) → wrap w (signed_of w x) ≡ x = λ s. elim s [
      | inl h ↦ ap (wrap w) (reading_low w x h) ∙ mod-eq_of_lt l
      | inr h ↦ ap (wrap w) (reading_high w x h l) ∙ (let e : (2 ^ w - 1 - x) % 2 ^ w ≡ 2 ^ w - 1 - x = mod-eq_of_lt (omega arith) in omega arith)
    ] in
    f (cases_lt x (2 ^ (w - 1)))

pub reading_in_range : (w x : ℕ) → 1 ≤ w → x < 2 ^ w → fits_signed w (signed_of w x) ≡ true
reading_in_range w x i l =
    let t : 2 ^ w ≡ 2 * 2 ^ (w - 1) = twice w i in
    let f : (x < 2 ^ (w - 1)) ⊎ (2 ^ (w - 1) ≤ x) → fits_signed w (signed_of w x) ≡ true = λ s. elim s [
      | inl h ↦ ap (fits_signed w) (reading_low w x h) ∙ lt-ltb x (2 ^ (w - 1)) h
      | inr h ↦ ap (fits_signed w) (reading_high w x h l) ∙ lt-ltb (2 ^ w - 1 - x) (2 ^ (w - 1)) (omega arith)
    ] in
    f (cases_lt x (2 ^ (w - 1)))

-- a whole number of the signed range is the reading of what it wraps to
pub reading_of_wrap : (w : ℕ) (z : ℤ) → 1 ≤ w → fits_signed w z ≡ true → signed_of w (wrap w z) ≡ z
reading_of_wrap w (pos n) i f =
    let t : 2 ^ w ≡ 2 * 2 ^ (w - 1) = twice w i in
    let l : n < 2 ^ (w - 1) = ltb-true n (2 ^ (w - 1)) f in
    let e : n % 2 ^ w ≡ n = mod-eq_of_lt (omega arith) in
    ap (signed_of w) e ∙ reading_low w n l
reading_of_wrap w (negsuc n) i f =
    let t : 2 ^ w ≡ 2 * 2 ^ (w - 1) = twice w i in
    let l : n < 2 ^ (w - 1) = ltb-true n (2 ^ (w - 1)) f in
    let e : n % 2 ^ w ≡ n = mod-eq_of_lt (omega arith) in
    ap (λ k. signed_of w (2 ^ w - 1 - k)) e ∙ reading_high w (2 ^ w - 1 - n) (omega arith) (omega arith) ∙ ap negsuc (omega arith)
