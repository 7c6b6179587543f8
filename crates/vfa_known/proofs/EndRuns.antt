-- Runs of places at the two ends of a mask, by the lowest and the highest place outside it.
use Rattle.std.proofs.Common.{◌≡◌, ℕ, ◌+◌, ◌-◌, ◌*◌, ◌%◌, ◌^◌, ◌<◌, ◌≤◌, sym, ◌∙◌, ap, subst, arith, inl, inr, lit<, bit_xor}
use Rattle.std.specs.Int.{bit_at, w128, trailing_zeros}
use Rattle.std.proofs.lemmas.Bool.{cases_lt}
use Rattle.std.proofs.lemmas.Nat.{one_shl, pow_below, pow_pos}
use Rattle.std.proofs.lemmas.Nat.Bits.{bit_at-lt, bit_at_above, bit_at_ones, bit_at_ones_above, bit_at_mask_below, bit_at-trailing_zeros}
use Rattle.std.proofs.Math.Nat.{pow-le-pow_right}
use Rattle.vfa_word.specs.Numbers.{IsWidth}
use Rattle.vfa_word.proofs.Readings.{twice}
use Rattle.vfa_known.specs.Runs.{IsLowRun, IsHighRun}
use Rattle.vfa_known.proofs.Members.{turned_at, turned_fits, turned_sums}

-- a bit of a number of width w stands below w
pub place_within : (w n i : ℕ) → n < 2 ^ w → bit_at n i ≡ 1 → i < w
place_within w n i fits on = elim (cases_lt i w) [
  | inl below ↦ below
  | inr above ↦ absurd (let none = bit_at_above n w i fits above in omega arith)
]

module _ (w most m : ℕ) (width : IsWidth w) (top : most + 1 ≡ 2 ^ w) (fits : m < 2 ^ w) where
  -- a place of the width is in the mask where it is not outside
  inside : (i : ℕ) → i < w → bit_at (bit_xor most m) i ≡ 0 → bit_at m i ≡ 1
  inside i below none = let turned = turned_at w most m top fits i below in let small = bit_at-lt m i in omega arith

  others_fit : bit_xor most m < 2 ^ w
  others_fit = turned_fits w most m top fits

  -- no place is outside the mask
  whole : bit_xor most m ≡ 0 → (i : ℕ) → i < w → bit_at m i ≡ 1
  whole none i below =
      let sum = turned_sums w most m top fits in let same : m ≡ 2 ^ w - 1 = omega arith in
      ap (λ n. bit_at n i) same ∙ bit_at_ones w i below

  pub whole_low : bit_xor most m ≡ 0 → IsLowRun w m m
  whole_low none = record {
    fits = fits;
    lower = λ i j on less. whole none j (let below = place_within w m i fits on in omega arith);
  }

  pub whole_high : bit_xor most m ≡ 0 → IsHighRun w m m
  whole_high none = record { fits = fits; higher = λ i j on more below. whole none j below }

  lowest_within : 0 < bit_xor most m → trailing_zeros w128 (bit_xor most m) < w
  lowest_within some =
      let large = width.most in let power = pow-le-pow_right {n = 2} (lit< tt) large in
      let lowest = bit_at-trailing_zeros w128 (bit_xor most m) some (let fit = others_fit in omega arith) in
      place_within w (bit_xor most m) (trailing_zeros w128 (bit_xor most m)) others_fit lowest.1

  pub low_power : 0 < bit_xor most m → 1 * 2 ^ trailing_zeros w128 (bit_xor most m) % 2 ^ 128 ≡ 2 ^ trailing_zeros w128 (bit_xor most m)
  low_power some = let large = width.most in let within = lowest_within some in one_shl (trailing_zeros w128 (bit_xor most m)) 128 (omega arith)

  -- the amount by which the code shifts
  pub low_within : 0 < bit_xor most m → trailing_zeros w128 (bit_xor most m) < 128
  low_within some = let large = width.most in let within = lowest_within some in omega arith

  -- below the lowest place outside all places are in the mask
  pub low_is : 0 < bit_xor most m → IsLowRun w m (1 * 2 ^ trailing_zeros w128 (bit_xor most m) % 2 ^ 128 - 1)
  low_is some = subst (λ n. IsLowRun w m (n - 1)) (sym (low_power some)) (record {
    fits = let less = pow_below (trailing_zeros w128 (bit_xor most m)) w (lowest_within some) in omega arith;
    lower = λ i j on less.
        let large = width.most in let power = pow-le-pow_right {n = 2} (lit< tt) large in
        let lowest = bit_at-trailing_zeros w128 (bit_xor most m) some (let fit = others_fit in omega arith) in
        elim (cases_lt i (trailing_zeros w128 (bit_xor most m))) [
          | inl low ↦ inside j (let within = lowest_within some in omega arith) (lowest.2 j (omega arith))
          | inr high ↦ absurd (let none = bit_at_ones_above (trailing_zeros w128 (bit_xor most m)) i high in omega arith)
        ];
  })

  module _ (k : ℕ) (bound : k < 128) (power_le : 2 ^ k ≤ bit_xor most m) (next_power_gt : bit_xor most m < 2 * 2 ^ k) where
    high_within : k < w
    high_within = elim (cases_lt k w) [
      | inl below ↦ below
      | inr above ↦ absurd (let power = pow-le-pow_right {n = 2} (lit< tt) above in let fit = others_fit in omega arith)
    ]

    pub high_power : 1 * 2 ^ k % 2 ^ 128 ≡ 2 ^ k
    high_power = one_shl k 128 bound

    next_power : 2 * 2 ^ k ≡ 2 ^ (k + 1)
    next_power = let one_back : k + 1 - 1 ≡ k = omega arith in ap (λ n. 2 * 2 ^ n) (sym one_back) ∙ sym (twice (k + 1) (omega arith))

    pub high_bound : 2 ^ k + 2 ^ k ≤ 2 ^ w
    high_bound = let power = pow-le-pow_right {n = 2} (lit< tt) (next_within) in let next = next_power in omega arith
      where
        next_within : k + 1 ≤ w
        next_within = let within = high_within in omega arith

    pub high_sum_le : 1 * 2 ^ k % 2 ^ 128 + (1 * 2 ^ k % 2 ^ 128 - 1) ≤ most
    high_sum_le = let one = high_power in let less = high_bound in let some = pow_pos k in omega arith

    pub high_sum_fits : 1 * 2 ^ k % 2 ^ 128 + (1 * 2 ^ k % 2 ^ 128 - 1) < 2 ^ 128
    high_sum_fits =
        let large = width.most in let power = pow-le-pow_right {n = 2} (lit< tt) large in let less = high_sum_le in omega arith

    -- above the highest place outside all places are in the mask
    pub high_is : IsHighRun w m (most - (1 * 2 ^ k % 2 ^ 128 + (1 * 2 ^ k % 2 ^ 128 - 1)))
    high_is = subst (IsHighRun w m) (sym same) (record {
      fits = let some = pow_pos (k + 1) in let all = pow_pos w in omega arith;
      higher = λ i j on more below. elim (cases_lt i (k + 1)) [
        | inl low ↦ absurd (let none = bit_at_mask_below (k + 1) w i low in omega arith)
        | inr high ↦ inside j below (bit_at_above (bit_xor most m) (k + 1) j (let next = next_power in omega arith) (omega arith))
      ];
    })
      where
        same : most - (1 * 2 ^ k % 2 ^ 128 + (1 * 2 ^ k % 2 ^ 128 - 1)) ≡ 2 ^ w - 2 ^ (k + 1)
        same =
            let one = high_power in let next = next_power in let less = high_bound in let some = pow_pos k in
            ap (λ n. most - (n + (n - 1))) one ∙ omega arith
