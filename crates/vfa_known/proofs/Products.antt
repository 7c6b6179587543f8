-- The low bits of a product.
use Rattle.std.proofs.Common.{pow_mono, ◌≡◌, ℕ, zero, suc, ◌+◌, ◌-◌, ◌*◌, ◌/◌, ◌%◌, ◌^◌, ◌<◌, ◌≤◌, Bool, true, false, not, ◌&&◌, ◌||◌, min, max, refl, sym, ◌∙◌, ap, subst, arith, ◌⊎◌, inl, inr, bit_and, bit_or, bit_xor}
use Rattle.std.proofs.Math.Nat.{mul-mul-mul_comm}
use Rattle.std.specs.Prelude.{nat_eq, nat_lt}
use Rattle.std.specs.Int.{bit_at, w128, trailing_ones}
use Rattle.std.specs.Int.Count.{count_trailing_zeros}
use Rattle.std.proofs.lemmas.Bool.{cases_eq, cases_lt, and_parts, or_cases, or_left, or_right, eqb-true, eq-eqb, ne_eqb, ltb-true, lt-ltb, le-ltb, not_from_true, not_from_false}
use Rattle.std.proofs.lemmas.Bool.Decides.{nat_tests}
use Rattle.std.proofs.lemmas.Nat.{pow_pos, mul-mod, div-add-mod', pow-add, mod_below, pow_below, or_lt, xor_lt, and_le_r}
use Rattle.std.proofs.lemmas.Nat.Bits.{bit_at-lt, bit_at_and, bit_at_or, bit_at_xor, bit_at_above, bit_at-zero, bit_at_ones, bit_at_ones_above, same_from_bits, bit_at-trailing_ones}
use Rattle.vfa_dom.specs.Search.{bits_below, flag}
use Rattle.vfa_dom.specs.Best.{Masks}
use Rattle.vfa_dom.proofs.Bests.{digit_cases}
use Rattle.vfa_dom.proofs.Searches.{least_found, least_is, some_found, true_from_flag, flag-true, flag-false, bits_below-lt, bit_at-bits_below, bits_are}
use Rattle.vfa_known.specs.Cube.{IsCube, InCube, in_masks}
use Rattle.vfa_known.specs.Product.{run_of, is_known, is_known_zero, known_low, zero_low, product_masks}
use Rattle.vfa_known.proofs.Cubes.{apart_at, ones_in, apart_from_bits, in_masks_from, in_masks_at}
use Rattle.vfa_known.proofs.Places.{bit_at_mod, bit_at_shl_low}

-- ---- runs

no_false : (b : Bool) → (b ≡ true → ⊥) → b ≡ false
no_false true h = absurd (h refl)
no_false false h = refl

either_false : (b c : Bool) → b ≡ false → c ≡ false → (b || c) ≡ false
either_false b c e f = cc

passed : (b c : Bool) → (b || not c) ≡ false → c ≡ true
passed b true e = refl
passed true false e = cc
passed false false e = cc

pub run_is : (w : ℕ) (p : ℕ → Bool) (t : ℕ) → t ≤ w → (t < w → p t ≡ false) → ((i : ℕ) → i < t → p i ≡ true) → t ≡ run_of w p
unfolding run_of
run_is w p t within stops each = sym (least_is (w + 1) (λ i. nat_eq i w || not (p i)) t (record {
  below = omega arith;
  passes = elim (cases_eq t w) [
    | inl same ↦ or_left (nat_eq t w) (not (p t)) (eq-eqb t w same)
    | inr other ↦ or_right (nat_eq t w) (not (p t)) (not_from_false (p t) (stops (grind arith)))
  ];
  first = λ i less. either_false (nat_eq i w) (not (p i)) (ne_eqb i w (λ same. absurd (omega arith))) (not_from_true (p i) (each i less));
}))

-- each place of the run passes
pub record IsRun (w : ℕ) (p : ℕ → Bool) (t : ℕ) : Type 0 where
  pub within : t ≤ w
  pub each : (i : ℕ) → i < t → p i ≡ true

pub run_found : (w : ℕ) (p : ℕ → Bool) → IsRun w p (run_of w p)
unfolding run_of
run_found w p =
    let q : ℕ → Bool = λ i. nat_eq i w || not (p i) in
    let least = least_found (w + 1) (λ i. nat_eq i w || not (p i)) (some_found (w + 1) (λ i. nat_eq i w || not (p i)) w (omega arith)
    (or_left (nat_eq w w) (not (p w)) (eq-eqb w w refl))) in
    let below = least.below in
    record { within = omega arith; each = λ i less. passed (nat_eq i w) (p i) (least.first i less) }

-- ---- numbers whose low bits are zero

pub low_zeros : (n k : ℕ) → ((i : ℕ) → i < k → bit_at n i ≡ 0) → n % 2 ^ k ≡ 0
low_zeros n k each = same_from_bits (n % 2 ^ k) 0 (λ i. elim (cases_lt i k) [
  | inl below ↦ bit_at_mod n k i below ∙ each i below ∙ sym (bit_at-zero i)
  | inr above ↦ bit_at_above (n % 2 ^ k) k i (mod_below n (2 ^ k) (pow_pos k)) above ∙ sym (bit_at-zero i)
])

multiple : (n m : ℕ) → n % m ≡ 0 → n ≡ n / m * m
multiple n m e = let s = div-add-mod' n m in omega arith

product_split : (x y a b p q : ℕ) → x ≡ a * p → y ≡ b * q → x * y ≡ (a * b) * (p * q)
product_split x y a b p q e f = (λ i. e i * f i) ∙ mul-mul-mul_comm a p b q

pub product_zeros : (x y j k i : ℕ) → ((h : ℕ) → h < j → bit_at x h ≡ 0) → ((h : ℕ) → h < k → bit_at y h ≡ 0) → i < j + k → bit_at (x * y) i ≡ 0
product_zeros x y j k i left right below =
    let e = multiple x (2 ^ j) (low_zeros x j left) in
    let f = multiple y (2 ^ k) (low_zeros y k right) in
    let s : x * y ≡ (x / 2 ^ j * (y / 2 ^ k)) * 2 ^ (j + k) =
    product_split x y (x / 2 ^ j) (y / 2 ^ k) (2 ^ j) (2 ^ k) e f ∙ ap (λ n. (x / 2 ^ j * (y / 2 ^ k)) * n) (sym (pow-add 2 j k)) in
    ap (λ n. bit_at n i) s ∙ bit_at_shl_low (x / 2 ^ j * (y / 2 ^ k)) (j + k) i below

-- ---- numbers that agree in their low bits

pub low_same : (x y k : ℕ) → ((i : ℕ) → i < k → bit_at x i ≡ bit_at y i) → x % 2 ^ k ≡ y % 2 ^ k
low_same x y k each = same_from_bits (x % 2 ^ k) (y % 2 ^ k) (λ i. elim (cases_lt i k) [
  | inl below ↦ bit_at_mod x k i below ∙ each i below ∙ sym (bit_at_mod y k i below)
  | inr above ↦
      bit_at_above (x % 2 ^ k) k i (mod_below x (2 ^ k) (pow_pos k)) above
      ∙ sym (bit_at_above (y % 2 ^ k) k i (mod_below y (2 ^ k) (pow_pos k)) above)
])

pub product_same : (x y u v k i : ℕ) → ((h : ℕ) → h < k → bit_at x h ≡ bit_at u h) → ((h : ℕ) → h < k → bit_at y h ≡ bit_at v h) →
    i < k → bit_at (x * y) i ≡ bit_at (u * v) i
product_same x y u v k i left right below =
    let e = low_same x u k left in
    let f = low_same y v k right in
    let s : (x * y) % 2 ^ k ≡ (u * v) % 2 ^ k =
    mul-mod x y (2 ^ k) ∙ (λ j. (e j * f j) % 2 ^ k) ∙ sym (mul-mod u v (2 ^ k)) in
    sym (bit_at_mod (x * y) k i below) ∙ ap (λ n. bit_at n i) s ∙ bit_at_mod (u * v) k i below

-- ---- what the masks of a product tell

min_parts : (i a b : ℕ) → i < min a b → (i < a) × (i < b)
min_parts i a b below = (omega arith, omega arith)

module _ (w : ℕ) (m : Masks) (cube : IsCube w m.zeros m.ones) (x : ℕ) (member : InCube w m.zeros m.ones x) where
  pub zero_in_run : (i : ℕ) → i < run_of w (is_known_zero m) → bit_at x i ≡ 0
  unfolding is_known_zero
  zero_in_run i below = member.zero i (eqb-true (bit_at m.zeros i) 1 ((run_found w (is_known_zero m)).each i below))

  none_both : (a b : ℕ) → min a b ≡ 0 → a ≡ 1 → b ≡ 0
  none_both a b e f = grind arith

  pub same_in_run : (i : ℕ) → i < run_of w (is_known m) → bit_at x i ≡ bit_at m.ones i
  unfolding is_known
  same_in_run i below =
      elim (or_cases (nat_eq (bit_at m.zeros i) 1) (nat_eq (bit_at m.ones i) 1) ((run_found w (is_known m)).each i below)) [
        | inl off ↦
            let known = eqb-true (bit_at m.zeros i) 1 off in
            member.zero i known ∙ sym (none_both (bit_at m.zeros i) (bit_at m.ones i) (apart_at w m.zeros m.ones cube i) known)
        | inr on ↦
            let known = eqb-true (bit_at m.ones i) 1 on in
            member.one i known ∙ sym known
      ]

module _ (w : ℕ) (a b : Masks) where
  below_from : (n i : ℕ) → n < 2 ^ w → bit_at n i ≡ 1 → i < w
  below_from n i fits on = elim (cases_lt i w) [
    | inl below ↦ below
    | inr above ↦ absurd (let none = bit_at_above n w i fits above in omega arith)
  ]

  pub product_zeros_fit : (product_masks w a b).zeros < 2 ^ w
  unfolding product_masks
  product_zeros_fit = bits_below-lt w (λ i. nat_lt i (zero_low w a b) || (nat_lt i (known_low w a b) && nat_eq (bit_at (a.ones * b.ones) i) 0))

  pub product_ones_fit : (product_masks w a b).ones < 2 ^ w
  unfolding product_masks
  product_ones_fit = bits_below-lt w (λ i. nat_lt i (known_low w a b) && nat_eq (bit_at (a.ones * b.ones) i) 1)

  -- a place that is known to be zero
  pub zeros_tell : (i : ℕ) → bit_at (product_masks w a b).zeros i ≡ 1 →
      (i < zero_low w a b) ⊎ ((i < known_low w a b) × (bit_at (a.ones * b.ones) i ≡ 0))
  unfolding product_masks
  zeros_tell i on =
      let p : ℕ → Bool = λ i. nat_lt i (zero_low w a b) || (nat_lt i (known_low w a b) && nat_eq (bit_at (a.ones * b.ones) i) 0) in
      let below = below_from (bits_below w p) i (bits_below-lt w p) on in
      elim (or_cases (nat_lt i (zero_low w a b)) (nat_lt i (known_low w a b) && nat_eq (bit_at (a.ones * b.ones) i) 0)
      (true_from_flag (p i) (sym (bit_at-bits_below w p i below) ∙ on))) [
        | inl low ↦ inl (ltb-true i (zero_low w a b) low)
        | inr off ↦
            let parts = and_parts (nat_lt i (known_low w a b)) (nat_eq (bit_at (a.ones * b.ones) i) 0) off in
            inr (ltb-true i (known_low w a b) parts.0, eqb-true (bit_at (a.ones * b.ones) i) 0 parts.1)
      ]

  pub ones_tell : (i : ℕ) → bit_at (product_masks w a b).ones i ≡ 1 → (i < known_low w a b) × (bit_at (a.ones * b.ones) i ≡ 1)
  unfolding product_masks
  ones_tell i on =
      let p : ℕ → Bool = λ i. nat_lt i (known_low w a b) && nat_eq (bit_at (a.ones * b.ones) i) 1 in
      let below = below_from (bits_below w p) i (bits_below-lt w p) on in
      let parts = and_parts (nat_lt i (known_low w a b)) (nat_eq (bit_at (a.ones * b.ones) i) 1)
      (true_from_flag (p i) (sym (bit_at-bits_below w p i below) ∙ on)) in
      (ltb-true i (known_low w a b) parts.0, eqb-true (bit_at (a.ones * b.ones) i) 1 parts.1)

module _ (w : ℕ) (a b : Masks) (left_cube : IsCube w a.zeros a.ones) (right_cube : IsCube w b.zeros b.ones) where
  module _ (x y : ℕ) (left : InCube w a.zeros a.ones x) (right : InCube w b.zeros b.ones y) where
    zero_there : (i : ℕ) → i < zero_low w a b → bit_at (x * y) i ≡ 0
    unfolding zero_low
    zero_there i below = product_zeros x y (run_of w (is_known_zero a)) (run_of w (is_known_zero b)) i
        (zero_in_run w a left_cube x left) (zero_in_run w b right_cube y right) below

    same_there : (i : ℕ) → i < known_low w a b → bit_at (x * y) i ≡ bit_at (a.ones * b.ones) i
    unfolding known_low
    same_there i below =
        let parts = min_parts i (run_of w (is_known a)) (run_of w (is_known b)) below in
        product_same x y a.ones b.ones (min (run_of w (is_known a)) (run_of w (is_known b))) i
        (λ h less. same_in_run w a left_cube x left h (min_parts h (run_of w (is_known a)) (run_of w (is_known b)) less).0)
        (λ h less. same_in_run w b right_cube y right h (min_parts h (run_of w (is_known a)) (run_of w (is_known b)) less).1)
        below

    -- each product is a number of the masks
    pub product_in : InCube w (product_masks w a b).zeros (product_masks w a b).ones ((x * y) % 2 ^ w)
    product_in = record {
      fits = mod_below (x * y) (2 ^ w) (pow_pos w);
      zero = λ i on.
          let below = below_from w a b (product_masks w a b).zeros i (product_zeros_fit w a b) on in
          bit_at_mod (x * y) w i below ∙ elim (zeros_tell w a b i on) [
            | inl low ↦ zero_there i low
            | inr known ↦ same_there i known.0 ∙ known.1
          ];
      one = λ i on.
          let below = below_from w a b (product_masks w a b).ones i (product_ones_fit w a b) on in
          let known = ones_tell w a b i on in
          bit_at_mod (x * y) w i below ∙ same_there i known.0 ∙ known.1;
    }

  pub product_cube : IsCube w (product_masks w a b).zeros (product_masks w a b).ones
  product_cube =
      let r = product_in a.ones b.ones (ones_in w a.zeros a.ones left_cube) (ones_in w b.zeros b.ones right_cube) in
      record {
        zeros_fit = product_zeros_fit w a b;
        ones_fit = product_ones_fit w a b;
        apart = apart_from_bits (product_masks w a b).zeros (product_masks w a b).ones (λ i known.
            elim (digit_cases (product_masks w a b).ones i) [
              | inl clear ↦ clear
              | inr both ↦ absurd (let off = r.zero i known in let on = r.one i both in omega arith)
            ]);
      }

-- ---- what the code computes

zero_flag : (z k : Bool) (p : ℕ) → p < 2 → max (flag z) ((flag k + min p (flag k)) % 2) ≡ flag (z || (k && nat_eq p 0))
unfolding flag
zero_flag true true zero small = refl
zero_flag true true (suc zero) small = refl
zero_flag true true (suc (suc p)) small = absurd (omega arith)
zero_flag true false zero small = refl
zero_flag true false (suc zero) small = refl
zero_flag true false (suc (suc p)) small = absurd (omega arith)
zero_flag false true zero small = refl
zero_flag false true (suc zero) small = refl
zero_flag false true (suc (suc p)) small = absurd (omega arith)
zero_flag false false zero small = refl
zero_flag false false (suc zero) small = refl
zero_flag false false (suc (suc p)) small = absurd (omega arith)

one_flag : (k : Bool) (p : ℕ) → p < 2 → min p (flag k) ≡ flag (k && nat_eq p 1)
unfolding flag
one_flag true zero small = refl
one_flag true (suc zero) small = refl
one_flag true (suc (suc p)) small = absurd (omega arith)
one_flag false zero small = refl
one_flag false (suc zero) small = refl
one_flag false (suc (suc p)) small = absurd (omega arith)

low_digit : (n w i : ℕ) → i < w → bit_at (2 ^ (min n w) - 1) i ≡ flag (nat_lt i n)
low_digit n w i below = elim (cases_lt i n) [
  | inl less ↦ bit_at_ones (min n w) i (omega arith) ∙ sym (flag-true (nat_lt i n) (lt-ltb i n less))
  | inr more ↦ bit_at_ones_above (min n w) i (omega arith) ∙ sym (flag-false (nat_lt i n) (le-ltb i n more))
]

low_fits : (n w : ℕ) → 2 ^ (min n w) - 1 < 2 ^ w
low_fits n w = let l : 2 ^ (min n w) ≤ 2 ^ w = pow_mono {i = min n w} {j = w} (omega arith) in omega (arith, pow_pos w)

module _ (w k z p low none : ℕ) (width : w ≤ 128) (low_is : low ≡ 2 ^ (min k w) - 1) (none_is : none ≡ 2 ^ (min z w) - 1) where
  code_one : (i : ℕ) → i < w → bit_at (bit_and (p % 2 ^ 128) low) i ≡ min (bit_at p i) (flag (nat_lt i k))
  code_one i below =
      bit_at_and (p % 2 ^ 128) low i
      ∙ (λ j. min (bit_at_mod p 128 i (let l : i < 128 = omega arith in l) j) ((ap (λ n. bit_at n i) low_is ∙ low_digit k w i below) j))

  pub code_ones : bit_and (p % 2 ^ 128) low ≡ bits_below w (λ i. nat_lt i k && nat_eq (bit_at p i) 1)
  code_ones = bits_are w (λ i. nat_lt i k && nat_eq (bit_at p i) 1) (bit_and (p % 2 ^ 128) low)
      (let l = and_le_r (p % 2 ^ 128) low in let f = low_fits k w in omega arith)
      (λ i below. code_one i below ∙ one_flag (nat_lt i k) (bit_at p i) (bit_at-lt p i))

  pub code_zeros : bit_or none (bit_xor low (bit_and (p % 2 ^ 128) low)) ≡ bits_below w (λ i. nat_lt i z || (nat_lt i k && nat_eq (bit_at p i) 0))
  code_zeros = bits_are w (λ i. nat_lt i z || (nat_lt i k && nat_eq (bit_at p i) 0)) (bit_or none (bit_xor low (bit_and (p % 2 ^ 128) low)))
      (or_lt w none (bit_xor low (bit_and (p % 2 ^ 128) low)) (let f = low_fits z w in omega arith)
      (xor_lt w low (bit_and (p % 2 ^ 128) low) (let f = low_fits k w in omega arith)
      (let l = and_le_r (p % 2 ^ 128) low in let f = low_fits k w in omega arith)))
      (λ i below.
      bit_at_or none (bit_xor low (bit_and (p % 2 ^ 128) low)) i
      ∙ (λ j. max ((ap (λ n. bit_at n i) none_is ∙ low_digit z w i below) j)
      ((bit_at_xor low (bit_and (p % 2 ^ 128) low) i
      ∙ (λ h. ((ap (λ n. bit_at n i) low_is ∙ low_digit k w i below) h + code_one i below h) % 2)) j))
      ∙ zero_flag (nat_lt i z) (nat_lt i k) (bit_at p i) (bit_at-lt p i))

-- ---- the runs that the code counts

-- t places from 0 on are ones, and no more
pub record IsOnesRun (w m t : ℕ) : Type 0 where
  pub within : t ≤ w
  pub stops : t < w → bit_at m t ≡ 0
  pub each : (i : ℕ) → i < t → bit_at m i ≡ 1

all_ones : trailing_ones w128 340282366920938463463374607431768211455 ≡ 128
unfolding count_trailing_zeros
all_ones = refl

pub ones_run : (w m t : ℕ) → w ≤ 128 → m < 2 ^ w → t ≡ trailing_ones w128 m → IsOnesRun w m t
ones_run w m t width fits is =
    let most : 2 ^ w ≤ 2 ^ 128 = pow_mono {i = w} {j = 128} width in
    elim (cases_lt (m + 1) (2 ^ 128)) [
      | inl less ↦
          let law = bit_at-trailing_ones w128 m less in
          let off : bit_at m t ≡ 0 = ap (bit_at m) is ∙ law.1 in
          let on : (i : ℕ) → i < t → bit_at m i ≡ 1 = λ i below. law.2 i (omega arith) in
          record {
            within = elim (cases_lt w t) [
              | inl past ↦ absurd (let one = on w past in let none = bit_at_above m w w fits (omega arith) in omega arith)
              | inr fine ↦ fine
            ];
            stops = λ below. off;
            each = on;
          }
      | inr full ↦
          let same : m ≡ 340282366920938463463374607431768211455 = omega arith in
          let whole : w ≡ 128 = elim (cases_lt w 128) [
            | inl less ↦ absurd (let p = pow_below w 128 less in omega arith)
            | inr more ↦ omega arith
          ] in
          let count : t ≡ 128 = is ∙ ap (trailing_ones w128) same ∙ all_ones in
          record {
            within = omega arith;
            stops = λ below. absurd (omega arith);
            each = λ i below. ap (λ n. bit_at n i) same ∙ bit_at_ones 128 i (omega arith);
          }
    ]

pub run_by_mask : (w m t : ℕ) (p : ℕ → Bool) → IsOnesRun w m t → ((i : ℕ) → nat_eq (bit_at m i) 1 ≡ p i) → t ≡ run_of w p
run_by_mask w m t p run tells = run_is w p t run.within
    (λ below. let off = run.stops below in sym (tells t) ∙ ne_eqb (bit_at m t) 1 (λ on. absurd (omega arith)))
    (λ i below. sym (tells i) ∙ eq-eqb (bit_at m i) 1 (run.each i below))

either_digit : (a b c : ℕ) → a < 2 → b < 2 → c ≡ max a b → nat_eq c 1 ≡ (nat_eq a 1 || nat_eq b 1)
either_digit a b c p q e = grind (arith, nat_tests)

pub zero_run_is : (w t : ℕ) (m : Masks) → IsOnesRun w m.zeros t → t ≡ run_of w (is_known_zero m)
unfolding is_known_zero
zero_run_is w t m run = run_by_mask w m.zeros t (λ i. nat_eq (bit_at m.zeros i) 1) run (λ i. refl)

pub known_run_is : (w t : ℕ) (m : Masks) → IsOnesRun w (bit_or m.zeros m.ones) t → t ≡ run_of w (is_known m)
unfolding is_known
known_run_is w t m run = run_by_mask w (bit_or m.zeros m.ones) t (λ i. nat_eq (bit_at m.zeros i) 1 || nat_eq (bit_at m.ones i) 1) run
    (λ i. either_digit (bit_at m.zeros i) (bit_at m.ones i) (bit_at (bit_or m.zeros m.ones) i) (bit_at-lt m.zeros i) (bit_at-lt m.ones i)
    (bit_at_or m.zeros m.ones i))

-- ---- the masks that the code makes

pub product_is : (w : ℕ) (a b : Masks) (k z low none : ℕ) → w ≤ 128 → k ≡ known_low w a b → z ≡ zero_low w a b →
    low ≡ 2 ^ (min k w) - 1 → none ≡ 2 ^ (min z w) - 1 →
    record {
      zeros = bit_or none (bit_xor low (bit_and ((a.ones * b.ones) % 2 ^ 128) low));
      ones = bit_and ((a.ones * b.ones) % 2 ^ 128) low;
    } ≡ product_masks w a b
unfolding product_masks
product_is w a b k z low none width e f low_is none_is =
    let low_here : low ≡ 2 ^ (min (known_low w a b) w) - 1 = low_is ∙ ap (λ n. 2 ^ (min n w) - 1) e in
    let none_here : none ≡ 2 ^ (min (zero_low w a b) w) - 1 = none_is ∙ ap (λ n. 2 ^ (min n w) - 1) f in
    let zeros_same = code_zeros w (known_low w a b) (zero_low w a b) (a.ones * b.ones) low none width low_here none_here in
    let ones_same = code_ones w (known_low w a b) (zero_low w a b) (a.ones * b.ones) low none width low_here none_here in
    cc

pub known_low_is : (w j k n : ℕ) (a b : Masks) → j ≡ run_of w (is_known a) → k ≡ run_of w (is_known b) → n ≡ min j k → n ≡ known_low w a b
unfolding known_low
known_low_is w j k n a b e f g = g ∙ (λ i. min (e i) (f i))

pub zero_low_is : (w j k : ℕ) (a b : Masks) → j ≡ run_of w (is_known_zero a) → k ≡ run_of w (is_known_zero b) → j + k ≡ zero_low w a b
unfolding zero_low
zero_low_is w j k a b e f = λ i. e i + f i

-- the same of masks that equal those of the product
module _ (w : ℕ) (a b m : Masks) (left_cube : IsCube w a.zeros a.ones) (right_cube : IsCube w b.zeros b.ones) (is : m ≡ product_masks w a b) where
  pub product_cube_is : IsCube w m.zeros m.ones
  product_cube_is = subst (λ n. IsCube w n.zeros n.ones) (sym is) (product_cube w a b left_cube right_cube)

  pub product_holds : (x y : ℕ) → in_masks w a x ≡ true → in_masks w b y ≡ true → in_masks w m ((x * y) % 2 ^ w) ≡ true
  product_holds x y left right = subst (λ n. in_masks w n ((x * y) % 2 ^ w) ≡ true) (sym is)
      (in_masks_from w (product_masks w a b).zeros (product_masks w a b).ones (product_cube w a b left_cube right_cube) ((x * y) % 2 ^ w)
      (product_in w a b left_cube right_cube x y (in_masks_at w a.zeros a.ones left_cube x left) (in_masks_at w b.zeros b.ones right_cube y right)))
