-- Which digit of its operand each digit of a cast or a shift is.
use Rattle.std.proofs.Common.{◌≡◌, ℕ, zero, suc, ◌+◌, ◌-◌, ◌*◌, ◌/◌, ◌%◌, ◌^◌, ◌<◌, ◌≤◌, min, refl, sym, ◌∙◌, ap, arith, inl, inr, ℤ, pos, negsuc, cond, bit_and, bit_or, mod-eq_of_lt}
use Rattle.std.proofs.Math.Nat.{div-one}
use Rattle.std.specs.Prelude.{nat_lt}
use Rattle.std.specs.Int.{bit_at}
use Rattle.std.proofs.lemmas.Bool.{cases_lt, lt-ltb, cond-true, cond-false, le-ltb}
use Rattle.std.proofs.lemmas.Nat.{pow_pos, shr-shr, div-add-mod', mod_below, shr_le, pow_below}
use Rattle.std.proofs.lemmas.Nat.Bits.{ones_shr, bit_at_lowest, bit_at-suc, bit_at-zero, bit_at_above, bit_at_cat_low, bit_at_cat_high, bit_at_mask_inside, bit_at_mask_below, bit_at_ones, bit_at_ones_above}
use Rattle.vfa_word.specs.Numbers.{IsWidth, wrap, signed_of, floor_div}
use Rattle.vfa_word.proofs.Wrapping.{wrap_below, masked}
use Rattle.vfa_word.proofs.Readings.{twice, reading_low, reading_high}
use Rattle.vfa_known.specs.declared.shift.Shift.{Shift}
use Rattle.vfa_known.specs.declared.shift.Shift.TheVariants.{Left, Logical, Arithmetic}
use Rattle.vfa_known.specs.Shift.{shift_of, zeros_from_outside}
use Rattle.vfa_known.proofs.Moves.{MovesDigits, or_none}

-- ---- digits of what operations give

-- the digits below w stay in the remainder
pub bit_at_mod : (n w i : ℕ) → i < w → bit_at (n % 2 ^ w) i ≡ bit_at n i
bit_at_mod n w i below =
    sym (bit_at_cat_low (n / 2 ^ w) w (n % 2 ^ w) i below) ∙ ap (λ k. bit_at k i) (div-add-mod' n (2 ^ w))

pub bit_at_shr : (n t i : ℕ) → bit_at (n / 2 ^ t) i ≡ bit_at n (t + i)
bit_at_shr n t i = ap (λ k. k % 2) (shr-shr n t i)

pub bit_at_shl_low : (n t i : ℕ) → i < t → bit_at (n * 2 ^ t) i ≡ 0
bit_at_shl_low n t i below = ap (λ k. bit_at k i) (sum_is (n * 2 ^ t)) ∙ bit_at_cat_low n t 0 i below ∙ bit_at-zero i
  where
    sum_is : (m : ℕ) → m ≡ m + 0
    sum_is m = omega arith

pub bit_at_shl_high : (n t i : ℕ) → t ≤ i → bit_at (n * 2 ^ t) i ≡ bit_at n (i - t)
bit_at_shl_high n t i above = ap (λ k. bit_at k i) (sum_is (n * 2 ^ t)) ∙ bit_at_cat_high n t 0 i (pow_pos t) above
  where
    sum_is : (m : ℕ) → m ≡ m + 0
    sum_is m = omega arith

lowest_apart : (m n h : ℕ) → m + n + 1 ≡ 2 * h → m % 2 + n % 2 ≡ 1
lowest_apart m n h e = omega arith

halves_apart : (m n h : ℕ) → m + n + 1 ≡ 2 * h → m / 2 + n / 2 + 1 ≡ h
halves_apart m n h e = omega arith

-- of two numbers that sum to all ones just one has each digit
pub complement_digit : (i k m n : ℕ) → m + n + 1 ≡ 2 ^ k → i < k → bit_at m i + bit_at n i ≡ 1
complement_digit zero k m n e below =
    let t = lowest_apart m n (2 ^ (k - 1)) (e ∙ twice k (omega arith)) in
    sum_of (bit_at m 0) (bit_at n 0) (m % 2) (n % 2) (bit_at_lowest m) (bit_at_lowest n) t
  where
    sum_of : (a b c d : ℕ) → a ≡ c → b ≡ d → c + d ≡ 1 → a + b ≡ 1
    sum_of a b c d p q r = omega arith
complement_digit (suc i) k m n e below =
    let half : m / 2 + n / 2 + 1 ≡ 2 ^ (k - 1) = halves_apart m n (2 ^ (k - 1)) (e ∙ twice k (omega arith)) in
    let rest = complement_digit i (k - 1) (m / 2) (n / 2) half (omega arith) in
    sum_of (bit_at m (suc i)) (bit_at n (suc i)) (bit_at (m / 2) i) (bit_at (n / 2) i) (bit_at-suc m i) (bit_at-suc n i) rest
  where
    sum_of : (a b c d : ℕ) → a ≡ c → b ≡ d → c + d ≡ 1 → a + b ≡ 1
    sum_of a b c d p q r = omega arith

-- ---- signed readings

other_one : (a b : ℕ) → a + b ≡ 1 → b ≡ 0 → a ≡ 1
other_one a b e f = omega arith

same_other : (a b c : ℕ) → a + b ≡ 1 → c + b ≡ 1 → a ≡ c
same_other a b c e f = omega arith

module _ (v w t x i : ℕ) (least : 1 ≤ v) (wider : v ≤ w) (fits : x < 2 ^ v) (below : i < w) where
  low_digit : x < 2 ^ (v - 1) → bit_at ((x / 2 ^ t) % 2 ^ w) i ≡ bit_at x (min (t + i) (v - 1))
  low_digit small =
      bit_at_mod (x / 2 ^ t) w i below ∙ bit_at_shr x t i
      ∙ elim (cases_lt (t + i) (v - 1)) [
        | inl inside ↦ ap (bit_at x) (omega arith)
        | inr outside ↦
            bit_at_above x (v - 1) (t + i) small outside
            ∙ sym (bit_at_above x (v - 1) (min (t + i) (v - 1)) small (omega arith))
      ]

  high_digit : (c : ℕ) → c + x + 1 ≡ 2 ^ v → c < 2 ^ (v - 1) → bit_at (2 ^ w - 1 - (c / 2 ^ t) % 2 ^ w) i ≡ bit_at x (min (t + i) (v - 1))
  high_digit c sum small =
      let m : ℕ = (c / 2 ^ t) % 2 ^ w in
      let m_fits : (c / 2 ^ t) % 2 ^ w < 2 ^ w = mod_below (c / 2 ^ t) (2 ^ w) (pow_pos w) in
      let split : (2 ^ w - 1 - (c / 2 ^ t) % 2 ^ w) + (c / 2 ^ t) % 2 ^ w + 1 ≡ 2 ^ w = rest_of (2 ^ w) ((c / 2 ^ t) % 2 ^ w) m_fits in
      let one = complement_digit i w (2 ^ w - 1 - (c / 2 ^ t) % 2 ^ w) ((c / 2 ^ t) % 2 ^ w) split below in
      let moved : bit_at ((c / 2 ^ t) % 2 ^ w) i ≡ bit_at c (t + i) = bit_at_mod (c / 2 ^ t) w i below ∙ bit_at_shr c t i in
      elim (cases_lt (t + i) v) [
        | inl inside ↦
            let two = complement_digit (t + i) v c x sum inside in
            joined (bit_at (2 ^ w - 1 - (c / 2 ^ t) % 2 ^ w) i) (bit_at ((c / 2 ^ t) % 2 ^ w) i) (bit_at c (t + i)) (bit_at x (t + i)) one moved two
            ∙ ap (bit_at x) (omega arith)
        | inr outside ↦
            let none : bit_at c (t + i) ≡ 0 = bit_at_above c (v - 1) (t + i) small (omega arith) in
            let top : bit_at c (v - 1) ≡ 0 = bit_at_above c (v - 1) (v - 1) small (omega arith) in
            let two = complement_digit (v - 1) v c x sum (omega arith) in
            other_one (bit_at (2 ^ w - 1 - (c / 2 ^ t) % 2 ^ w) i) (bit_at ((c / 2 ^ t) % 2 ^ w) i) one (moved ∙ none)
            ∙ sym (first_one (bit_at c (v - 1)) (bit_at x (v - 1)) two top)
            ∙ ap (bit_at x) (omega arith)
      ]
    where
      rest_of : (p m : ℕ) → m < p → (p - 1 - m) + m + 1 ≡ p
      rest_of p m h = omega arith

      joined : (a b c d : ℕ) → a + b ≡ 1 → b ≡ c → c + d ≡ 1 → a ≡ d
      joined a b c d p q r = omega arith

      first_one : (a b : ℕ) → a + b ≡ 1 → a ≡ 0 → b ≡ 1
      first_one a b p q = omega arith

  -- the digit of the reading's quotient by 2^t: the places from the highest on have the sign's digit
  pub signed_digit : bit_at (wrap w (floor_div (signed_of v x) (2 ^ t))) i ≡ bit_at x (min (t + i) (v - 1))
  signed_digit = elim (cases_lt x (2 ^ (v - 1))) [
    | inl small ↦ ap (λ z. bit_at (wrap w (floor_div z (2 ^ t))) i) (reading_low v x small) ∙ low_digit small
    | inr large ↦
        ap (λ z. bit_at (wrap w (floor_div z (2 ^ t))) i) (reading_high v x large fits)
        ∙ high_digit (2 ^ v - 1 - x) (omega arith) (omega (arith, twice v least))
  ]

-- ---- the shifts

abbrev pub place_of : Shift → ℕ → ℕ → ℕ → ℕ
place_of Left w t i = cond (nat_lt i t) w (i - t)
place_of Logical w t i = t + i
place_of Arithmetic w t i = min (t + i) (w - 1)

pub place_below : (w t i : ℕ) → i < t → place_of Left w t i ≡ w
place_below w t i low = cond-true (nat_lt i t) w (i - t) (lt-ltb i t low)

pub place_above : (w t i : ℕ) → t ≤ i → place_of Left w t i ≡ i - t
place_above w t i high = cond-false (nat_lt i t) w (i - t) (le-ltb i t high)

module _ (w t : ℕ) (width : IsWidth w) (amount : t < w) where
  left_digit : (x i : ℕ) → x < 2 ^ w → i < w → bit_at ((x * 2 ^ t) % 2 ^ w) i ≡ bit_at x (place_of Left w t i)
  left_digit x i fits below = bit_at_mod (x * 2 ^ t) w i below ∙ elim (cases_lt i t) [
    | inl low ↦
        bit_at_shl_low x t i low ∙ sym (bit_at_above x w w fits (omega arith))
        ∙ ap (bit_at x) (sym (place_below w t i low))
    | inr high ↦ bit_at_shl_high x t i high ∙ ap (bit_at x) (sym (place_above w t i high))
  ]

  pub left_moves : MovesDigits w w (λ x. shift_of Left w x t) (place_of Left w t) (zeros_from_outside Left w t)
  left_moves = record {
    fits = λ x fits. mod_below (x * 2 ^ t) (2 ^ w) (pow_pos w);
    digit = left_digit;
    fill_fits = let p = pow_below t w amount in omega arith;
    filled = λ i below outside. elim (cases_lt i t) [
      | inl low ↦ bit_at_ones t i low
      | inr high ↦ absurd (let e = place_above w t i high in omega arith)
    ];
    unfilled = λ i below inside. elim (cases_lt i t) [
      | inl low ↦ absurd (let e = place_below w t i low in omega arith)
      | inr high ↦ bit_at_ones_above t i high
    ];
  }

  pub logical_moves : MovesDigits w w (λ x. shift_of Logical w x t) (place_of Logical w t) (zeros_from_outside Logical w t)
  logical_moves = record {
    fits = λ x fits. let less = shr_le x t in omega arith;
    digit = λ x i fits below. bit_at_shr x t i;
    fill_fits = let p = pow_pos (w - t) in let q = pow_pos w in omega arith;
    filled = λ i below outside. bit_at_mask_inside (w - t) w i (omega arith) below;
    unfilled = λ i below inside. bit_at_mask_below (w - t) w i (omega arith);
  }

  pub arithmetic_moves : MovesDigits w w (λ x. shift_of Arithmetic w x t) (place_of Arithmetic w t) (zeros_from_outside Arithmetic w t)
  arithmetic_moves = record {
    fits = λ x fits. wrap_below w (floor_div (signed_of w x) (2 ^ t));
    digit = λ x i fits below. signed_digit w w t x i width.least (omega arith) fits below;
    fill_fits = pow_pos w;
    filled = λ i below outside. absurd (let l = width.least in omega arith);
    unfilled = λ i below inside. bit_at-zero i;
  }

pub shift_moves : (shift : Shift) (w t : ℕ) → IsWidth w → t < w → MovesDigits w w (λ x. shift_of shift w x t) (place_of shift w t) (zeros_from_outside shift w t)
shift_moves Left w t width amount = left_moves w t width amount
shift_moves Logical w t width amount = logical_moves w t width amount
shift_moves Arithmetic w t width amount = arithmetic_moves w t width amount

-- ---- the casts

floor_by_one : (z : ℤ) → floor_div z (2 ^ 0) ≡ z
floor_by_one (pos n) = ap pos (div-one n)
floor_by_one (negsuc n) = ap negsuc (div-one n)

zero_more : (i : ℕ) → 0 + i ≡ i
zero_more i = omega arith

module _ (v w : ℕ) (from_width : IsWidth v) (width : IsWidth w) where
  pub zext_moves : v < w → MovesDigits v w (λ x. x) (λ i. i) (2 ^ w - 2 ^ v)
  zext_moves wider = record {
    fits = λ x fits. let p = pow_below v w wider in omega arith;
    digit = λ x i fits below. refl;
    fill_fits = let p = pow_pos v in let q = pow_pos w in omega arith;
    filled = λ i below outside. bit_at_mask_inside v w i outside below;
    unfilled = λ i below inside. bit_at_mask_below v w i inside;
  }

  pub sext_moves : v < w → MovesDigits v w (λ x. wrap w (signed_of v x)) (λ i. min i (v - 1)) 0
  sext_moves wider = record {
    fits = λ x fits. wrap_below w (signed_of v x);
    digit = λ x i fits below.
        sym (ap (λ z. bit_at (wrap w z) i) (floor_by_one (signed_of v x)))
        ∙ signed_digit v w 0 x i from_width.least (omega arith) fits below
        ∙ ap (λ k. bit_at x (min k (v - 1))) (zero_more i);
    fill_fits = pow_pos w;
    filled = λ i below outside. absurd (let l = from_width.least in omega arith);
    unfilled = λ i below inside. bit_at-zero i;
  }

  pub trunc_moves : w < v → MovesDigits v w (λ x. x % 2 ^ w) (λ i. i) 0
  trunc_moves narrower = record {
    fits = λ x fits. mod_below x (2 ^ w) (pow_pos w);
    digit = λ x i fits below. bit_at_mod x w i below;
    fill_fits = pow_pos w;
    filled = λ i below outside. absurd (omega arith);
    unfilled = λ i below inside. bit_at-zero i;
  }

-- what the code computes of the widths' masks
pub kept_bits : (n m w : ℕ) → m + 1 ≡ 2 ^ w → bit_and n m ≡ bit_or (n % 2 ^ w) 0
kept_bits n m w e = masked n m w e ∙ or_none (n % 2 ^ w)

pub kept : (n m w : ℕ) → m + 1 ≡ 2 ^ w → bit_and n m ≡ n % 2 ^ w
kept n m w e = masked n m w e

pub between : (m n v w : ℕ) → m + 1 ≡ 2 ^ w → n + 1 ≡ 2 ^ v → m - n ≡ 2 ^ w - 2 ^ v
between m n v w e f = omega arith

pub upper_places : (m w t : ℕ) → m + 1 ≡ 2 ^ w → t < w → m - m / 2 ^ t ≡ 2 ^ w - 2 ^ (w - t)
upper_places m w t e h =
    let k : m ≡ 2 ^ w - 1 = omega arith in
    let f : m / 2 ^ t ≡ 2 ^ (w - t) - 1 = ap (λ j. j / 2 ^ t) k ∙ ones_shr w t (omega arith) in
    omega (arith, pow_pos (w - t))

pub extended : (v w n c s r : ℕ) → n < 2 ^ v → c ≡ n % 2 ^ v → s ≡ wrap w (signed_of v c) → r ≡ s → r ≡ wrap w (signed_of v n)
extended v w n c s r fits e f g = g ∙ f ∙ ap (λ k. wrap w (signed_of v k)) (e ∙ mod-eq_of_lt fits)

pub shifted_is : (shift : Shift) (w n c t : ℕ) → n < 2 ^ w → c ≡ n % 2 ^ w → shift_of shift w c t ≡ shift_of shift w n t
shifted_is shift w n c t fits e = ap (λ k. shift_of shift w k t) (e ∙ mod-eq_of_lt fits)
