-- What the search for the next member computes.
use Rattle.std.proofs.Common.{◌≡◌, ℕ, suc, ◌+◌, ◌-◌, ◌*◌, ◌/◌, ◌%◌, ◌^◌, ◌<◌, ◌≤◌, min, max, refl, sym, ◌∙◌, ap, subst, arith, inl, inr, bit_and, bit_or, Some, None, pow-suc}
use Rattle.std.specs.Int.{bit_at, trailing_ones, w128}
use Rattle.std.proofs.Math.Nat.{pow-le-pow_right}
use Rattle.std.proofs.lemmas.Bool.{cases_eq, cases_lt}
use Rattle.std.proofs.lemmas.Nat.{one_shl, pow_pos, pow_below, shl-shr, and_le_l, or_lt, le-div, div_below, or_disjoint, or_shifted, and_mask, mod_below}
use Rattle.std.proofs.lemmas.Nat.Bits.{bit_at-lt, bit_at_and, bit_at_or, bit_at_above, bit_at_ones, bit_at_ones_above, and_pow, and_high_mask, bit_at-zero, bit_at-trailing_ones, same_from_bits_below}
use Rattle.vfa_dom.specs.Sets.{at_or_after, least_of}
use Rattle.vfa_known.specs.Cube.{IsCube, InCube, in_masks}
use Rattle.vfa_known.proofs.Members.{complement_at}
use Rattle.vfa_known.proofs.Searching.{risen, IsTurn, IsFull, IsRise, none_left, least_after}

-- ---- digits

clash_digit : (x z o d : ℕ) → x < 2 → z < 2 → o < 2 → max (min x z) (min o (1 - x)) ≡ 1 → d ≡ x → (z ≡ 1 → d ≡ 0) → (o ≡ 1 → d ≡ 1) → ⊥
clash_digit x z o d hx hz ho wrong same zero_known one_known = elim (cases_eq x 0) [
  | inl off ↦ let on : o ≡ 1 = grind arith in let is = one_known on in omega arith
  | inr other ↦ let one : x ≡ 1 = grind arith in let on : z ≡ 1 = grind arith in let is = zero_known on in omega arith
]

right_zero : (x z o : ℕ) → x < 2 → max (min x z) (min o (1 - x)) ≡ 0 → z ≡ 1 → x ≡ 0
right_zero x z o hx right on = grind arith

right_one : (x z o : ℕ) → x < 2 → max (min x z) (min o (1 - x)) ≡ 0 → o ≡ 1 → x ≡ 1
right_one x z o hx right on = grind arith

full_digit : (x z l : ℕ) → x < 2 → z ≡ 0 → l ≡ 0 → max (max x z) l ≡ 1 → x ≡ 1
full_digit x z l hx clear low on = grind arith

open_digit : (x z l : ℕ) → max (max x z) l ≡ 0 → (x ≡ 0) × (z ≡ 0)
open_digit x z l off = ((grind arith), (grind arith))

low_digit : (x z l : ℕ) → x < 2 → z < 2 → l ≡ 1 → max (max x z) l ≡ 1
low_digit x z l hx hz on = grind arith

-- the highest bit of a number
pub highest_is : (n k : ℕ) → 2 ^ k ≤ n → n < 2 * 2 ^ k → bit_at n k ≡ 1
highest_is n k reach bound =
    let low = le-div 1 n (2 ^ k) (pow_pos k) (omega arith) in
    let high = div_below n (2 ^ k) 2 (pow_pos k) (omega arith) in
    let one : n / 2 ^ k ≡ 1 = omega arith in
    ap (λ m. m % 2) one

pub x_below : (w k x : ℕ) → w ≤ k → x < 2 ^ w → x < 2 ^ k
x_below w k x within fits = let more = pow-le-pow_right {n = 2} (omega arith) {i = w} {j = k} within in omega arith

module _ (w most k zeros ones x wrong : ℕ) (within : w ≤ k) (top : most + 1 ≡ 2 ^ w) (cube : IsCube w zeros ones) (fits : x < 2 ^ w)
    (is_wrong : wrong ≡ bit_or (bit_and x zeros) (bit_and ones (2 ^ k - 1 - x))) where
  x_fits : x < 2 ^ k
  x_fits = x_below w k x within fits

  wrong_at : (i : ℕ) → i < w → bit_at wrong i ≡ max (min (bit_at x i) (bit_at zeros i)) (min (bit_at ones i) (1 - bit_at x i))
  wrong_at i below =
      ap (λ n. bit_at n i) is_wrong
      ∙ bit_at_or (bit_and x zeros) (bit_and ones (2 ^ k - 1 - x)) i
      ∙ ap (λ n. max n (bit_at (bit_and ones (2 ^ k - 1 - x)) i)) (bit_at_and x zeros i)
      ∙ ap (max (min (bit_at x i) (bit_at zeros i)))
      (bit_at_and ones (2 ^ k - 1 - x) i ∙ ap (min (bit_at ones i)) (complement_at k x i x_fits (omega arith)))

  wrong_fits : wrong < 2 ^ w
  wrong_fits =
      let one = and_le_l x zeros in
      let two = and_le_l ones (2 ^ k - 1 - x) in
      let fit = cube.ones_fit in
      subst (λ n. n < 2 ^ w) (sym is_wrong) (or_lt w (bit_and x zeros) (bit_and ones (2 ^ k - 1 - x)) (omega arith) (omega arith))

  -- a bit that is not wrong agrees with the masks
  agrees_zero : (i : ℕ) → bit_at wrong i ≡ 0 → bit_at zeros i ≡ 1 → bit_at x i ≡ 0
  agrees_zero i right known = elim (cases_lt i w) [
    | inl below ↦ right_zero (bit_at x i) (bit_at zeros i) (bit_at ones i) (bit_at-lt x i) (sym (wrong_at i below) ∙ right) known
    | inr above ↦ bit_at_above x w i fits above
  ]

  agrees_one : (i : ℕ) → bit_at wrong i ≡ 0 → bit_at ones i ≡ 1 → bit_at x i ≡ 1
  agrees_one i right known = elim (cases_lt i w) [
    | inl below ↦ right_one (bit_at x i) (bit_at zeros i) (bit_at ones i) (bit_at-lt x i) (sym (wrong_at i below) ∙ right) known
    | inr above ↦ absurd (let none = bit_at_above ones w i cube.ones_fit above in omega arith)
  ]

  pub right_in : wrong ≡ 0 → InCube w zeros ones x
  right_in none = record {
    fits = fits;
    zero = λ i known. agrees_zero i (ap (λ n. bit_at n i) none ∙ bit_at-zero i) known;
    one = λ i known. agrees_one i (ap (λ n. bit_at n i) none ∙ bit_at-zero i) known;
  }

  module _ (turn : ℕ) (reach : 2 ^ turn ≤ wrong) (bound : wrong < 2 * 2 ^ turn) where
    pub turn_below : turn < w
    turn_below = elim (cases_lt turn w) [
      | inl below ↦ below
      | inr above ↦ absurd (
          let more = pow-le-pow_right {n = 2} (omega arith) {i = w} {j = turn} above in
          let small = wrong_fits in omega arith)
    ]

    above_right : (i : ℕ) → turn < i → bit_at wrong i ≡ 0
    above_right i above = bit_at_above wrong (suc turn) i (rw pow-suc (omega arith)) above

    pub turn_is : IsTurn zeros ones x turn
    turn_is = record {
      clash = λ d same zero_known one_known.
          clash_digit (bit_at x turn) (bit_at zeros turn) (bit_at ones turn) d (bit_at-lt x turn) (bit_at-lt zeros turn) (bit_at-lt ones turn)
          (sym (wrong_at turn turn_below) ∙ highest_is wrong turn reach bound) same zero_known one_known;
      zero = λ i above known. agrees_zero i (above_right i above) known;
      one = λ i above known. agrees_one i (above_right i above) known;
    }

    module _ (full : ℕ) (is_full : full ≡ bit_or (bit_or x zeros) (2 ^ turn - 1)) where
      full_at : (i : ℕ) → bit_at full i ≡ max (max (bit_at x i) (bit_at zeros i)) (bit_at (2 ^ turn - 1) i)
      full_at i =
          ap (λ n. bit_at n i) is_full ∙ bit_at_or (bit_or x zeros) (2 ^ turn - 1) i
          ∙ ap (λ n. max n (bit_at (2 ^ turn - 1) i)) (bit_at_or x zeros i)

      pub full_fits : full < 2 ^ w
      full_fits =
          let less = pow_below turn w turn_below in
          subst (λ n. n < 2 ^ w) (sym is_full)
          (or_lt w (bit_or x zeros) (2 ^ turn - 1) (or_lt w x zeros fits cube.zeros_fit) (omega arith))

      full_from : (limit : ℕ) → ((i : ℕ) → i < limit → bit_at full i ≡ 1) → IsFull zeros x turn limit
      full_from limit each = record {
        full = λ i after below clear.
            full_digit (bit_at x i) (bit_at zeros i) (bit_at (2 ^ turn - 1) i) (bit_at-lt x i) clear (bit_at_ones_above turn i after)
            (sym (full_at i) ∙ each i below);
      }

      pub all_full : full ≡ most → IsFull zeros x turn w
      all_full all = full_from w (λ i below.
          let same : full ≡ 2 ^ w - 1 = omega arith in ap (λ n. bit_at n i) same ∙ bit_at_ones w i below)

      pub rise_is : (rise : ℕ) → (full ≡ most → ⊥) → bit_at full rise ≡ 0 → ((i : ℕ) → i < rise → bit_at full i ≡ 1) → IsRise w zeros x turn rise
      rise_is rise other off each =
          let free = open_digit (bit_at x rise) (bit_at zeros rise) (bit_at (2 ^ turn - 1) rise) (sym (full_at rise) ∙ off) in
          record {
            below = elim (cases_lt rise w) [
              | inl below ↦ below
              | inr above ↦ absurd (other (same_from_bits_below w full most full_fits (omega arith) (λ i below.
                  let same : most ≡ 2 ^ w - 1 = omega arith in
                  each i (omega arith) ∙ sym (ap (λ n. bit_at n i) same ∙ bit_at_ones w i below))))
            ];
            after = elim (cases_lt rise turn) [
              | inl below ↦ absurd (
                  let on = low_digit (bit_at x rise) (bit_at zeros rise) (bit_at (2 ^ turn - 1) rise) (bit_at-lt x rise) (bit_at-lt zeros rise)
                  (bit_at_ones turn rise below) in
                  let law = full_at rise in omega arith)
              | inr after ↦ after
            ];
            off = free.0;
            free = free.1;
            full = full_from rise each;
          }

-- the answer, as the code makes it: p is 2 to the place
pub risen_is : (k x low r p : ℕ) → x < 2 ^ k → r < k → p ≡ 2 ^ r → bit_at x r ≡ 0 →
    bit_or (bit_or (bit_and x (2 ^ k - 1 - (p - 1))) p) (bit_and low (p - 1)) ≡ risen x low r
unfolding risen
risen_is k x low r p fits below same off =
    let less = pow_below r k below in
    let positive = pow_pos r in
    let mask : 2 ^ k - 1 - (p - 1) ≡ 2 ^ k - 2 ^ r = omega arith in
    let high : bit_and x (2 ^ k - 1 - (p - 1)) ≡ x / 2 ^ r * 2 ^ r = ap (bit_and x) mask ∙ and_high_mask k r (omega arith) x fits in
    let part : bit_and low (p - 1) ≡ low % 2 ^ r = ap (λ n. bit_and low (n - 1)) same ∙ and_mask low r in
    let middle : bit_or (x / 2 ^ r * 2 ^ r) (2 ^ r) ≡ (x / 2 ^ r + 1) * 2 ^ r =
    or_disjoint (x / 2 ^ r * 2 ^ r) (2 ^ r) (and_pow (x / 2 ^ r * 2 ^ r) r ∙ ap (λ d. d * 2 ^ r) (cleared_at (x / 2 ^ r) r off) ∙ zero-mul (2 ^ r))
    ∙ one_more (x / 2 ^ r) (2 ^ r) in
    ap (λ n. bit_or (bit_or n p) (bit_and low (p - 1))) high
    ∙ ap (λ n. bit_or (bit_or (x / 2 ^ r * 2 ^ r) n) (bit_and low (p - 1))) same
    ∙ ap (bit_or (bit_or (x / 2 ^ r * 2 ^ r) (2 ^ r))) part
    ∙ ap (λ n. bit_or n (low % 2 ^ r)) middle
    ∙ or_shifted (x / 2 ^ r + 1) r (low % 2 ^ r) (mod_below low (2 ^ r) (pow_pos r))
  where
    one_more : (a p : ℕ) → a * p + p ≡ (a + 1) * p
    one_more a p = grind arith

    zero-mul : (p : ℕ) → 0 * p ≡ 0
    zero-mul p = grind arith

    cleared_at : (n r : ℕ) → n % 2 ≡ 0 → bit_at (n * 2 ^ r) r ≡ 0
    cleared_at n r even = ap (λ m. m % 2) (shl-shr n r) ∙ even

pub top_of : (w : ℕ) → 2 ^ w - 1 + 1 ≡ 2 ^ w
top_of w = let positive = pow_pos w in omega arith

-- the lowest zero of a number that has one below place w
pub record IsLowestZero (n rise : ℕ) : Type 0 where
  pub within : rise < 128
  pub off : bit_at n rise ≡ 0
  pub each : (i : ℕ) → i < rise → bit_at n i ≡ 1

pub lowest_zero : (w most full rise : ℕ) → w ≤ 128 → most + 1 ≡ 2 ^ w → full < 2 ^ w → (full ≡ most → ⊥) →
    rise ≡ trailing_ones w128 full → IsLowestZero full rise
lowest_zero w most full rise within top fits other is =
    let more = pow-le-pow_right {n = 2} (omega arith) {i = w} {j = 128} within in
    let room : full + 1 < 2 ^ 128 = below_all w most full top fits other more in
    subst (λ r. IsLowestZero full r) (sym is) (lowest_zero_at full room)
  where
    below_all : (w most full : ℕ) → most + 1 ≡ 2 ^ w → full < 2 ^ w → (full ≡ most → ⊥) → 2 ^ w ≤ 2 ^ 128 → full + 1 < 2 ^ 128
    below_all w most full top fits other more = elim (cases_lt full most) [
      | inl less ↦ omega arith
      | inr above ↦ absurd (other (omega arith))
    ]

    lowest_zero_at : (full : ℕ) → full + 1 < 2 ^ 128 → IsLowestZero full (trailing_ones w128 full)
    lowest_zero_at full room =
        let found = bit_at-trailing_ones w128 full room in
        record { within = found.0; off = found.1; each = found.2 }

-- the search as a whole, with the numbers as the code has them
module _ (w most zeros ones x turn rise : ℕ) (within : w ≤ 128) (top : most + 1 ≡ 2 ^ w) (cube : IsCube w zeros ones) (fits : x < 2 ^ w)
    (turn_within : turn < 128)
    (reach : 2 ^ turn ≤ bit_or (bit_and x zeros) (bit_and ones (2 ^ 128 - 1 - x)))
    (bound : bit_or (bit_and x zeros) (bit_and ones (2 ^ 128 - 1 - x)) < 2 * 2 ^ turn) where
  one_at_turn : bit_or (bit_or x zeros) (1 * 2 ^ turn % 2 ^ 128 - 1) ≡ bit_or (bit_or x zeros) (2 ^ turn - 1)
  one_at_turn = ap (λ n. bit_or (bit_or x zeros) (n - 1)) (one_shl turn 128 turn_within)

  turning : IsTurn zeros ones x turn
  turning = turn_is w most 128 zeros ones x _ within top cube fits refl turn reach bound

  pub answer_none : bit_or (bit_or x zeros) (1 * 2 ^ turn % 2 ^ 128 - 1) ≡ most →
      least_of w (at_or_after x (in_masks w (record { zeros = zeros; ones = ones }))) ≡ None
  answer_none all = none_left w zeros ones x turn cube fits turning
      (all_full w most 128 zeros ones x _ within top cube fits refl turn reach bound _ one_at_turn all)

  module _ (other : bit_or (bit_or x zeros) (1 * 2 ^ turn % 2 ^ 128 - 1) ≡ most → ⊥)
      (is_rise : rise ≡ trailing_ones w128 (bit_or (bit_or x zeros) (1 * 2 ^ turn % 2 ^ 128 - 1))) where
    pub rising : IsLowestZero (bit_or (bit_or x zeros) (1 * 2 ^ turn % 2 ^ 128 - 1)) rise
    rising = lowest_zero w most (bit_or (bit_or x zeros) (1 * 2 ^ turn % 2 ^ 128 - 1)) rise within top
        (full_fits w most 128 zeros ones x _ within top cube fits refl turn reach bound _ one_at_turn) other is_rise

    rises : IsRise w zeros x turn rise
    rises = rise_is w most 128 zeros ones x _ within top cube fits refl turn reach bound _ one_at_turn rise other rising.off rising.each

    pub answer_some :
        Some (bit_or (bit_or (bit_and x (2 ^ 128 - 1 - (1 * 2 ^ rise % 2 ^ 128 - 1))) (1 * 2 ^ rise % 2 ^ 128)) (bit_and ones (1 * 2 ^ rise % 2 ^ 128 - 1)))
        ≡ least_of w (at_or_after x (in_masks w (record { zeros = zeros; ones = ones })))
    answer_some =
        ap Some (risen_is 128 x ones rise (1 * 2 ^ rise % 2 ^ 128) (x_below w 128 x within fits) rising.within (one_shl rise 128 rising.within) rises.off)
        ∙ sym (least_after w zeros ones x turn cube fits turning rise rises)

pub shift_positive : (rise : ℕ) → rise < 128 → 1 ≤ 1 * 2 ^ rise % 2 ^ 128
shift_positive rise within = subst (λ n. 1 ≤ n) (sym (one_shl rise 128 within)) (pow_pos rise)
