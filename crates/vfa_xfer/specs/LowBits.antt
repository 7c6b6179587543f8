-- The lowest known bits of known bits, and the numbers that agree with them.
use Rattle.std.proofs.Common.{◌≡◌, ℕ, zero, suc, ◌+◌, ◌-◌, ◌*◌, ◌%◌, ◌/◌, ◌^◌, ◌<◌, ◌≤◌, ◌⊎◌, false, ◌||◌, inl, inr, refl, sym, ◌∙◌, ap, arith, Some, bit_or, bit_xor, nat_eq}
use Rattle.std.proofs.Math.Nat.{mod-mod}
use Rattle.std.specs.Prelude.{count_ones}
use Rattle.std.specs.Int.{bit_at}
use Rattle.std.proofs.lemmas.Bool.{cases_lt}
use Rattle.std.proofs.lemmas.Nat.{pow_pos, mod_below, or_lt, ones-le, ones_cat, ones_le_self, zero_from_ones}
use Rattle.std.proofs.lemmas.Nat.Bits.{bit_at-lt, bit_at_or, bit_at_above, bit_at_lowest, bit_at-suc, same_from_bits}
use Rattle.vfa_dom.specs.Best.{Masks}
use Rattle.vfa_dom.specs.Search.{greatest_below}
use Rattle.vfa_dom.specs.Sets.{meet}
use Rattle.vfa_dom.proofs.Bests.{digit_cases}
use Rattle.vfa_dom.proofs.ResultSets.{IsBest-alike}
use Rattle.vfa_known.specs.Cube.{IsCube, InCube, in_masks}
use Rattle.vfa_known.specs.Product.{run_of, is_known}
use Rattle.vfa_known.proofs.Cubes.{apart_at, apart_from_bits, in_masks_from, in_masks_at, cube_best}
use Rattle.vfa_known.proofs.Places.{bit_at_mod}
use Rattle.vfa_known.proofs.Products.{run_is, run_found}
use Rattle.vfa_wrap.specs.Arc.{in_span, full_span}
use Rattle.vfa_wrap.proofs.Circle.{in_full}
use Rattle.vfa_fact.specs.declared.numbers.Numbers.{Numbers}
use Rattle.vfa_fact.specs.Sharp.{sharp_in}
use Rattle.vfa_fact.proofs.FactEnds.{cube_first, cube_last, least_first, greatest_last}
use Rattle.vfa_fact.proofs.SharpSets.{Member, sharp_is, sharp_alike}
use Rattle.vfa_xfer.specs.Ranks.{known_count, low_span}
use Rattle.vfa_xfer.specs.Widening.{low_masks, low_in}

-- ---- the low bits of a number

above_low : (n k i : ℕ) → k ≤ i → bit_at (n % 2 ^ k) i ≡ 0
above_low n k i past = bit_at_above (n % 2 ^ k) k i (mod_below n (2 ^ k) (pow_pos k)) past

low_on : (n k i : ℕ) → bit_at (n % 2 ^ k) i ≡ 1 → bit_at n i ≡ 1
low_on n k i on = elim (cases_lt i k) [
  | inl below ↦ sym (bit_at_mod n k i below) ∙ on
  | inr past ↦ absurd (let none = above_low n k i past in omega arith)
]

low_fits : (n k w : ℕ) → n < 2 ^ w → n % 2 ^ k < 2 ^ w
low_fits n k w fits = let some = pow_pos k in omega arith

-- ---- masks of which each knows only bits that the other knows alike

pub record IsWeaker (m n : Masks) : Type 0 where
  pub zeros : (i : ℕ) → bit_at m.zeros i ≡ 1 → bit_at n.zeros i ≡ 1
  pub ones : (i : ℕ) → bit_at m.ones i ≡ 1 → bit_at n.ones i ≡ 1

pub weaker_through : (l m n : Masks) → IsWeaker l m → IsWeaker m n → IsWeaker l n
weaker_through l m n one two = record { zeros = λ i on. two.zeros i (one.zeros i on); ones = λ i on. two.ones i (one.ones i on) }

pub low_weaker : (w : ℕ) (m : Masks) → IsWeaker (low_masks w m) m
unfolding low_masks
low_weaker w m = record {
  zeros = λ i on. low_on m.zeros (run_of w (is_known m)) i on;
  ones = λ i on. low_on m.ones (run_of w (is_known m)) i on;
}

-- the numbers of a cube agree with weaker masks
pub weaker_in : (w : ℕ) (m n : Masks) (x : ℕ) → IsWeaker m n → InCube w n.zeros n.ones x → InCube w m.zeros m.ones x
weaker_in w m n x weaker member = record {
  fits = member.fits;
  zero = λ i on. member.zero i (weaker.zeros i on);
  one = λ i on. member.one i (weaker.ones i on);
}

-- weaker masks of the width have no common bit
pub weaker_cube : (w : ℕ) (m n : Masks) → IsWeaker m n → IsCube w n.zeros n.ones → m.zeros < 2 ^ w → m.ones < 2 ^ w → IsCube w m.zeros m.ones
weaker_cube w m n weaker cube zeros_fit ones_fit = record {
  zeros_fit = zeros_fit;
  ones_fit = ones_fit;
  apart = apart_from_bits m.zeros m.ones (λ i on. elim (digit_cases m.ones i) [
    | inl off ↦ off
    | inr both ↦ absurd (let z = weaker.zeros i on in let o = weaker.ones i both in let apart = apart_at w n.zeros n.ones cube i in grind arith)
  ]);
}

pub low_cube : (w : ℕ) (m : Masks) → IsCube w m.zeros m.ones → IsCube w (low_masks w m).zeros (low_masks w m).ones
unfolding low_masks
low_cube w m cube = weaker_cube w (low_masks w m) m (low_weaker w m) cube
    (low_fits m.zeros (run_of w (is_known m)) w cube.zeros_fit) (low_fits m.ones (run_of w (is_known m)) w cube.ones_fit)

-- ---- the lowest known bits of the lowest known bits

none_known : (z o : ℕ) → z ≡ 0 → o ≡ 0 → (nat_eq z 1 || nat_eq o 1) ≡ false
none_known z o ez eo = rw (ez, eo) refl

run_again : (w : ℕ) (m : Masks) → run_of w (is_known (record { zeros = m.zeros % 2 ^ run_of w (is_known m); ones = m.ones % 2 ^ run_of w (is_known m) })) ≡ run_of w (is_known m)
unfolding is_known
run_again w m =
    let k : ℕ = run_of w (is_known m) in
    let run = run_found w (is_known m) in
    sym (run_is w (is_known (record { zeros = m.zeros % 2 ^ k; ones = m.ones % 2 ^ k })) k run.within
    (λ below. none_known (bit_at (m.zeros % 2 ^ k) k) (bit_at (m.ones % 2 ^ k) k) (above_low m.zeros k k (omega arith)) (above_low m.ones k k (omega arith)))
    (λ i below.
    ap (λ n. nat_eq n 1 || nat_eq (bit_at (m.ones % 2 ^ k) i) 1) (bit_at_mod m.zeros k i below)
    ∙ ap (λ n. nat_eq (bit_at m.zeros i) 1 || nat_eq n 1) (bit_at_mod m.ones k i below)
    ∙ run.each i below))

pub low_again : (w : ℕ) (m : Masks) → low_masks w (low_masks w m) ≡ low_masks w m
unfolding low_masks
low_again w m =
    let k : ℕ = run_of w (is_known m) in
    ap (λ n. record { zeros = m.zeros % 2 ^ k % 2 ^ n; ones = m.ones % 2 ^ k % 2 ^ n }) (run_again w m)
    ∙ ap (λ n. record { zeros = n; ones = m.ones % 2 ^ k % 2 ^ k }) (mod-mod m.zeros (2 ^ k))
    ∙ ap (λ n. record { zeros = m.zeros % 2 ^ k; ones = n }) (mod-mod m.ones (2 ^ k))

-- ---- the fact of a whole cube

-- the masks, and the arc from the least to the greatest number
abbrev pub cube_numbers : ℕ → Masks → Numbers
cube_numbers w m = record { zeros = m.zeros; ones = m.ones; first = m.ones; last = bit_xor (2 ^ w - 1) m.zeros }

top : (w : ℕ) → 2 ^ w - 1 + 1 ≡ 2 ^ w
top w = let some = pow_pos w in omega arith

in_all : (w : ℕ) (m : Masks) (x : ℕ) → x < 2 ^ w → meet (in_span w (full_span w)) (in_masks w m) x ≡ in_masks w m x
unfolding meet
in_all w m x fits = rw (in_full w x fits) refl

pub cube_fact : (w : ℕ) (m : Masks) → IsCube w m.zeros m.ones → sharp_in w (full_span w) (in_masks w m) ≡ Some (cube_numbers w m)
cube_fact w m cube =
    sharp_alike w 0 (meet (in_span w (full_span w)) (in_masks w m)) (in_masks w m) (pow_pos w) (in_all w m)
    ∙ sharp_is w 0 (in_masks w m) (cube_numbers w m) (pow_pos w) (record {
      best = IsBest-alike w (InCube w m.zeros m.ones) (Member w (in_masks w m)) m.zeros m.ones
          (λ x member. record { fits = member.fits; is = in_masks_from w m.zeros m.ones cube x member })
          (λ x member. in_masks_at w m.zeros m.ones cube x member.is)
          (cube_best w m.zeros m.ones cube);
      first = cube_first w m.zeros m.ones cube;
      last = cube_last w m.zeros m.ones cube (2 ^ w - 1) (top w);
    })

pub low_all : (w : ℕ) (m : Masks) → IsCube w m.zeros m.ones → low_in w (full_span w) m ≡ Some (cube_numbers w (low_masks w m))
unfolding low_in
low_all w m cube = cube_fact w (low_masks w m) (low_cube w m cube)

pub low_span_is : (w : ℕ) (m : Masks) → IsCube w m.zeros m.ones →
    low_span w m ≡ record { first = (low_masks w m).ones; last = bit_xor (2 ^ w - 1) (low_masks w m).zeros }
unfolding low_span
low_span_is w m cube =
    let low : Masks = low_masks w m in
    let is = low_cube w m cube in
    ap (λ (n : ℕ). record { first = n; last = greatest_below (2 ^ w) (in_masks w low) })
    (sym (least_first w (in_masks w low) low.ones (cube_first w low.zeros low.ones is)))
    ∙ ap (λ (n : ℕ). record { first = low.ones; last = n })
    (sym (greatest_last w (in_masks w low) (bit_xor (2 ^ w - 1) low.zeros) (cube_last w low.zeros low.ones is (2 ^ w - 1) (top w))))

-- ---- how many bits are known

one_digit : (r : ℕ) → r < 2 → count_ones r ≡ r
one_digit r small = let most = ones_le_self r in let some = zero_from_ones r in grind arith

split_ones : (n : ℕ) → count_ones n ≡ count_ones (n / 2) + n % 2
split_ones n =
    let whole : n / 2 * 2 ^ 1 + n % 2 ≡ n = omega arith in
    ap count_ones (sym whole) ∙ ones_cat 1 (n / 2) (n % 2) (omega arith) ∙ ap (λ r. count_ones (n / 2) + r) (one_digit (n % 2) (omega arith))

-- a number with bits of another alone has fewer of them, or is the other
fewer_ones : (w a b : ℕ) → a < 2 ^ w → b < 2 ^ w → ((i : ℕ) → bit_at a i ≡ 1 → bit_at b i ≡ 1) → (a ≡ b) ⊎ (count_ones a < count_ones b)
fewer_ones zero a b ha hb within = inl (omega arith)
fewer_ones (suc w) a b ha hb within =
    let half = fewer_ones w (a / 2) (b / 2) (omega arith) (omega arith) (λ i on. sym (bit_at-suc b i) ∙ within (suc i) (bit_at-suc a i ∙ on)) in
    let low : a % 2 ≡ 1 → b % 2 ≡ 1 = λ on. sym (bit_at_lowest b) ∙ within 0 (bit_at_lowest a ∙ on) in
    let one = split_ones a in
    let two = split_ones b in
    elim half [
      | inl same ↦ elim (cases_lt (a % 2) (b % 2)) [
        | inl less ↦ inr (let counts = ap count_ones same in omega arith)
        | inr more ↦ inl (grind arith)
      ]
      | inr less ↦ inr (grind arith)
    ]

either_on : (m : Masks) (i : ℕ) → bit_at m.zeros i ≡ 1 → bit_at (bit_or m.zeros m.ones) i ≡ 1
either_on m i on = let law = bit_at_or m.zeros m.ones i in let small = bit_at-lt m.ones i in grind arith

other_on : (m : Masks) (i : ℕ) → bit_at m.ones i ≡ 1 → bit_at (bit_or m.zeros m.ones) i ≡ 1
other_on m i on = let law = bit_at_or m.zeros m.ones i in let small = bit_at-lt m.zeros i in grind arith

on_cases : (m : Masks) (i : ℕ) → bit_at (bit_or m.zeros m.ones) i ≡ 1 → (bit_at m.zeros i ≡ 1) ⊎ (bit_at m.ones i ≡ 1)
on_cases m i on = elim (digit_cases m.zeros i) [
  | inr zero_on ↦ inl zero_on
  | inl off ↦ inr (let law = bit_at_or m.zeros m.ones i in grind arith)
]

same_bits : (a b : ℕ) → ((i : ℕ) → bit_at a i ≡ 1 → bit_at b i ≡ 1) → ((i : ℕ) → bit_at b i ≡ 1 → bit_at a i ≡ 1) → a ≡ b
same_bits a b there back = same_from_bits a b (λ i. elim (digit_cases a i) [
  | inr on ↦ on ∙ sym (there i on)
  | inl off ↦ elim (digit_cases b i) [
    | inl off' ↦ off ∙ sym off'
    | inr on ↦ absurd (let other = back i on in omega arith)
  ]
])

-- weaker masks know fewer bits, or are the same
module _ (w : ℕ) (m n : Masks) (weaker : IsWeaker m n) (left : IsCube w m.zeros m.ones) (right : IsCube w n.zeros n.ones) where
  union_within : (i : ℕ) → bit_at (bit_or m.zeros m.ones) i ≡ 1 → bit_at (bit_or n.zeros n.ones) i ≡ 1
  union_within i on = elim (on_cases m i on) [
    | inl z ↦ either_on n i (weaker.zeros i z)
    | inr o ↦ other_on n i (weaker.ones i o)
  ]

  module _ (same : bit_or m.zeros m.ones ≡ bit_or n.zeros n.ones) where
    zeros_back : (i : ℕ) → bit_at n.zeros i ≡ 1 → bit_at m.zeros i ≡ 1
    zeros_back i on = elim (on_cases m i (ap (λ u. bit_at u i) same ∙ either_on n i on)) [
      | inl z ↦ z
      | inr o ↦ absurd (let other = weaker.ones i o in let apart = apart_at w n.zeros n.ones right i in grind arith)
    ]

    ones_back : (i : ℕ) → bit_at n.ones i ≡ 1 → bit_at m.ones i ≡ 1
    ones_back i on = elim (on_cases m i (ap (λ u. bit_at u i) same ∙ other_on n i on)) [
      | inr o ↦ o
      | inl z ↦ absurd (let other = weaker.zeros i z in let apart = apart_at w n.zeros n.ones right i in grind arith)
    ]

    same_masks : m ≡ n
    same_masks =
        ap (λ (z : ℕ). record { zeros = z; ones = m.ones }) (same_bits m.zeros n.zeros weaker.zeros zeros_back)
        ∙ ap (λ (o : ℕ). record { zeros = n.zeros; ones = o }) (same_bits m.ones n.ones weaker.ones ones_back)

  pub weaker_counts : (m ≡ n) ⊎ (known_count m < known_count n)
  unfolding known_count
  weaker_counts = elim (fewer_ones w (bit_or m.zeros m.ones) (bit_or n.zeros n.ones) (or_lt w m.zeros m.ones left.zeros_fit left.ones_fit) (or_lt w n.zeros n.ones right.zeros_fit right.ones_fit) union_within) [
    | inl same ↦ inl (same_masks same)
    | inr less ↦ inr less
  ]

pub known_most : (w : ℕ) (m : Masks) → IsCube w m.zeros m.ones → known_count m ≤ w
unfolding known_count
known_most w m cube = ones-le w (bit_or m.zeros m.ones) (or_lt w m.zeros m.ones cube.zeros_fit cube.ones_fit)
