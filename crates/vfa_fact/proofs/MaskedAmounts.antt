-- Masks of amounts: of those in an arc, of those that agree with known bits, and their ends.
use Rattle.std.proofs.Common.{◌≡◌, ◌≢◌, ℕ, zero, suc, ℤ, pos, ◌+◌, ◌-◌, ◌*◌, ◌/◌, ◌%◌, ◌^◌, ◌<◌, ◌≤◌, min, max, Bool, true, false, ◌&&◌, ◌||◌, refl, sym, ◌∙◌, ap, subst, arith, inl, inr, lit<, add-one, nat_eq, bit_and, bit_or, Option, Some, None}
use Rattle.std.specs.Prelude.{nat_le}
use Rattle.std.specs.Int.{bit_at, w128, trailing_zeros}
use Rattle.std.proofs.lemmas.Bool.{cases_lt, true≢false}
use Rattle.std.proofs.lemmas.Bool.Decides.{nat_tests}
use Rattle.std.proofs.lemmas.Nat.{one_shl, pow_pos, pow_below, and_le_l, or_lt}
use Rattle.std.proofs.lemmas.Nat.Bits.{bit_at-lt, bit_at-zero, bit_at_above, bit_at_cat_high, bit_at_and, bit_at_or, bit_at_ones, bit_at_ones_above, bit_at_mask_inside, bit_at_mask_below, bit_at-trailing_zeros, ones_shr, and_pow}
use Rattle.std.proofs.Math.Nat.{pow-le-pow_right}
use Rattle.vfa_word.specs.Numbers.{IsWidth, signed_of}
use Rattle.vfa_word.proofs.Readings.{reading_low, twice}
use Rattle.vfa_dom.specs.Search.{all_below, bits_below, flag}
use Rattle.vfa_dom.proofs.Bests.{digit_cases}
use Rattle.vfa_dom.proofs.Searches.{all_pass, all_from, bits_are, bits_alike, bits_below-lt, bit_at-bits_below, flag-true, flag-false, true_from_flag}
use Rattle.vfa_known.specs.Cube.{IsCube, InCube, agrees_at, in_masks}
use Rattle.vfa_known.proofs.Cubes.{apart_at, in_masks_at, in_masks_from}
use Rattle.vfa_known.proofs.Members.{complement_at, subset_from}
use Rattle.vfa_wrap.specs.Arc.{in_span, IsArc}
use Rattle.vfa_wrap.specs.Ends.{EndsOf}
use Rattle.vfa_wrap.proofs.Truth.{untrue, same_answers}
use Rattle.vfa_fact.specs.declared.numbers.Numbers.{Numbers}
use Rattle.vfa_fact.specs.Cuts.{AmountsOf, ends_in, amounts_in, amounts_of}
use Rattle.vfa_fact.specs.Fact.{masks_in, span_in, in_numbers}
use Rattle.vfa_fact.specs.Interval.{Reaches}
use Rattle.vfa_fact.proofs.CellNumbers.{in_plain, in_split}
use Rattle.vfa_fact.proofs.CutEnds.{lt_pow, below_width, amount_at, amount_from, amount_bit, amounts_none, ends_none, ends_of_low}

-- ---- sets of numbers below w as masks

pub no_bits : (n : ℕ) (p : ℕ → Bool) → ((k : ℕ) → k < n → p k ≡ false) → 0 ≡ bits_below n p
no_bits n p none = bits_are n p 0 (pow_pos n) (λ i below. bit_at-zero i ∙ sym (flag-false (p i) (none i below)))

flag_and : (a b : Bool) → min (flag a) (flag b) ≡ flag (a && b)
unfolding flag
flag_and true true = refl
flag_and true false = refl
flag_and false true = refl
flag_and false false = refl

flag_or : (a b : Bool) → max (flag a) (flag b) ≡ flag (a || b)
unfolding flag
flag_or true true = refl
flag_or true false = refl
flag_or false true = refl
flag_or false false = refl

pub and_bits : (w v : ℕ) (p q : ℕ → Bool) → w ≤ v → bit_and (bits_below w p) (bits_below v q) ≡ bits_below w (λ t. p t && q t)
and_bits w v p q less = bits_are w (λ t. p t && q t) (bit_and (bits_below w p) (bits_below v q))
    (let small = and_le_l (bits_below w p) (bits_below v q) in let fits = bits_below-lt w p in omega arith) (λ i below.
    bit_at_and (bits_below w p) (bits_below v q) i
    ∙ both (bit_at (bits_below w p) i) (bit_at (bits_below v q) i) (flag (p i)) (flag (q i)) (bit_at-bits_below w p i below) (bit_at-bits_below v q i (omega arith))
    ∙ flag_and (p i) (q i))
  where
    both : (a b c d : ℕ) → a ≡ c → b ≡ d → min a b ≡ min c d
    both a b c d e f = cc

pub or_bits : (w : ℕ) (p q : ℕ → Bool) → bit_or (bits_below w p) (bits_below w q) ≡ bits_below w (λ t. p t || q t)
or_bits w p q = bits_are w (λ t. p t || q t) (bit_or (bits_below w p) (bits_below w q))
    (or_lt w (bits_below w p) (bits_below w q) (bits_below-lt w p) (bits_below-lt w q)) (λ i below.
    bit_at_or (bits_below w p) (bits_below w q) i
    ∙ both (bit_at (bits_below w p) i) (bit_at (bits_below w q) i) (flag (p i)) (flag (q i)) (bit_at-bits_below w p i below) (bit_at-bits_below w q i below)
    ∙ flag_or (p i) (q i))
  where
    both : (a b c d : ℕ) → a ≡ c → b ≡ d → max a b ≡ max c d
    both a b c d e f = cc

-- ---- the amounts from a number on and up to a number

pub none_from : (w n k : ℕ) → k ≡ w → k ≤ n → 0 ≡ bits_below w (λ t. nat_le n t)
none_from w n k is from = no_bits w (λ t. nat_le n t) (λ t below. grind (arith, nat_tests))

module _ (w most n : ℕ) (width : IsWidth w) (top : most + 1 ≡ 2 ^ w) where
  low_power : n < w → 1 * 2 ^ n % 2 ^ 128 ≡ 2 ^ n
  low_power below = let large = width.most in one_shl n 128 (omega arith)

  pub under_fits : n < w → 1 * 2 ^ n % 2 ^ 128 - 1 ≤ most
  under_fits below = let power = low_power below in let less = pow_below n w below in omega arith

  pub from_is : n < w → most - (1 * 2 ^ n % 2 ^ 128 - 1) ≡ bits_below w (λ t. nat_le n t)
  from_is below =
      let power = low_power below in let some = pow_pos n in let all = pow_pos w in let less = pow_below n w below in
      let same : most - (1 * 2 ^ n % 2 ^ 128 - 1) ≡ 2 ^ w - 2 ^ n = omega arith in
      same ∙ bits_are w (λ t. nat_le n t) (2 ^ w - 2 ^ n) (omega arith) (λ i small. elim (cases_lt i n) [
        | inl low ↦ bit_at_mask_below n w i low ∙ sym (flag-false (nat_le n i) (grind (arith, nat_tests)))
        | inr high ↦ bit_at_mask_inside n w i high small ∙ sym (flag-true (nat_le n i) (grind (arith, nat_tests)))
      ])

  pub up_to_is : (b k : ℕ) → b ≡ w - 1 → k ≡ min n b → most / 2 ^ (w - 1 - k) ≡ bits_below w (λ t. nat_le t n)
  up_to_is b k last is =
      let least = width.least in
      let all : most ≡ 2 ^ w - 1 = omega arith in
      let places : w - (w - 1 - k) ≡ k + 1 = omega arith in
      let same : most / 2 ^ (w - 1 - k) ≡ 2 ^ (k + 1) - 1 =
      ap (λ m. m / 2 ^ (w - 1 - k)) all ∙ ones_shr w (w - 1 - k) (omega arith) ∙ ap (λ e. 2 ^ e - 1) places in
      let power = pow-le-pow_right {n = 2} (lit< tt) (within k least last is) in let some = pow_pos (k + 1) in
      same ∙ bits_are w (λ t. nat_le t n) (2 ^ (k + 1) - 1) (omega arith) (λ i small. elim (cases_lt i (k + 1)) [
        | inl low ↦ bit_at_ones (k + 1) i low ∙ sym (flag-true (nat_le i n) (grind (arith, nat_tests)))
        | inr high ↦ bit_at_ones_above (k + 1) i high ∙ sym (flag-false (nat_le i n) (grind (arith, nat_tests)))
      ])
    where
      within : (k : ℕ) → 1 ≤ w → b ≡ w - 1 → k ≡ min n b → k + 1 ≤ w
      within k least last is = omega arith

-- ---- the amounts in an arc

module _ (w first last f l a b : ℕ) (arc : IsArc w (record { first = first; last = last })) (ef : f ≡ first) (el : l ≡ last)
    (from : a ≡ bits_below w (λ t. nat_le f t)) (up_to : b ≡ bits_below w (λ t. nat_le t l)) where
  from_first : a ≡ bits_below w (λ t. nat_le first t)
  from_first = from ∙ ap (λ n. bits_below w (λ t. nat_le n t)) ef

  up_to_last : b ≡ bits_below w (λ t. nat_le t last)
  up_to_last = up_to ∙ ap (λ n. bits_below w (λ t. nat_le t n)) el

  pub plain_arc : f ≤ l → bit_and a b ≡ bits_below w (in_span w (record { first = first; last = last }))
  plain_arc order =
      let both : bit_and a b ≡ bit_and (bits_below w (λ t. nat_le first t)) (bits_below w (λ t. nat_le t last)) = ands from_first up_to_last in
      both ∙ and_bits w w (λ t. nat_le first t) (λ t. nat_le t last) (omega arith)
      ∙ bits_alike w (λ t. nat_le first t && nat_le t last) (in_span w (record { first = first; last = last }))
      (λ t below. in_plain w first last t arc.first_fits arc.last_fits (below_width w t below) (omega arith))
    where
      ands : {a b c d : ℕ} → a ≡ c → b ≡ d → bit_and a b ≡ bit_and c d
      ands e f = cc

  pub turned_arc : l < f → bit_or a b ≡ bits_below w (in_span w (record { first = first; last = last }))
  turned_arc order =
      let both : bit_or a b ≡ bit_or (bits_below w (λ t. nat_le first t)) (bits_below w (λ t. nat_le t last)) = ors from_first up_to_last in
      both ∙ or_bits w (λ t. nat_le first t) (λ t. nat_le t last)
      ∙ bits_alike w (λ t. nat_le first t || nat_le t last) (in_span w (record { first = first; last = last }))
      (λ t below. in_split w first last t arc.first_fits arc.last_fits (below_width w t below) (omega arith))
    where
      ors : {a b c d : ℕ} → a ≡ c → b ≡ d → bit_or a b ≡ bit_or c d
      ors e f = cc

-- ---- the numbers below 128 by one of their bits

abbrev pub with_bit : ℕ → ℕ
with_bit k = bits_below 128 (λ t. nat_eq (bit_at t k) 1)

pub with_bit_zero : 226854911280625642308916404954512140970 ≡ with_bit 0
unfolding bits_below flag
with_bit_zero = refl

pub with_bit_one : 272225893536750770770699685945414569164 ≡ with_bit 1
unfolding bits_below flag
with_bit_one = refl

pub with_bit_two : 320265757102059730318470218759311257840 ≡ with_bit 2
unfolding bits_below flag
with_bit_two = refl

pub with_bit_three : 338958311018522360492699998064329424640 ≡ with_bit 3
unfolding bits_below flag
with_bit_three = refl

pub with_bit_four : 340277174703306882242637262502835978240 ≡ with_bit 4
unfolding bits_below flag
with_bit_four = refl

pub with_bit_five : 340282366841710300967557013907638845440 ≡ with_bit 5
unfolding bits_below flag
with_bit_five = refl

pub with_bit_six : 340282366920938463444927863358058659840 ≡ with_bit 6
unfolding bits_below flag
with_bit_six = refl

pub with_bit_is : (n k : ℕ) (place : ℕ) → place ≡ k → n ≡ with_bit k → n ≡ with_bit place
with_bit_is n k place same is = is ∙ ap with_bit (sym same)

flag_one : (d : ℕ) → d < 2 → flag (nat_eq d 1) ≡ d
unfolding flag
flag_one zero small = refl
flag_one (suc zero) small = refl
flag_one (suc (suc d)) small = absurd (omega arith)

flag_zero : (d : ℕ) → d < 2 → flag (nat_eq d 0) ≡ 1 - d
unfolding flag
flag_zero zero small = refl
flag_zero (suc zero) small = refl
flag_zero (suc (suc d)) small = absurd (omega arith)

-- what the code tests of a mask
bit_on : (n k p : ℕ) → p ≡ 2 ^ k → bit_and n p ≢ 0 → bit_at n k ≡ 1
bit_on n k p is some = elim (digit_cases n k) [
  | inl off ↦ absurd (some (ap (bit_and n) is ∙ and_pow n k ∙ ap (λ d. d * 2 ^ k) off ∙ omega arith))
  | inr on ↦ on
]

bit_off : (n k p : ℕ) → p ≡ 2 ^ k → bit_and n p ≡ 0 → bit_at n k ≡ 0
bit_off n k p is none = elim (digit_cases n k) [
  | inl off ↦ off
  | inr on ↦ absurd (let power = pow_pos k in let one = sym none ∙ ap (bit_and n) is ∙ and_pow n k ∙ ap (λ d. d * 2 ^ k) on in omega arith)
]

by_zero : (z o d : ℕ) → z ≡ 1 → o ≡ 0 → ((nat_eq z 0 || nat_eq d 0) && (nat_eq o 0 || nat_eq d 1)) ≡ nat_eq d 0
by_zero z o d ez eo = grind (arith, nat_tests)

by_one : (z o d : ℕ) → z ≡ 0 → o ≡ 1 → ((nat_eq z 0 || nat_eq d 0) && (nat_eq o 0 || nat_eq d 1)) ≡ nat_eq d 1
by_one z o d ez eo = grind (arith, nat_tests)

by_none : (z o d : ℕ) → z ≡ 0 → o ≡ 0 → ((nat_eq z 0 || nat_eq d 0) && (nat_eq o 0 || nat_eq d 1)) ≡ true
by_none z o d ez eo = grind (arith, nat_tests)

agree_zero : (z o d : ℕ) → ((nat_eq z 0 || nat_eq d 0) && (nat_eq o 0 || nat_eq d 1)) ≡ true → z ≡ 1 → d ≡ 0
agree_zero z o d agrees known = grind (arith, nat_tests)

agree_one : (z o d : ℕ) → ((nat_eq z 0 || nat_eq d 0) && (nat_eq o 0 || nat_eq d 1)) ≡ true → o ≡ 1 → d ≡ 1
agree_one z o d agrees known = grind (arith, nat_tests)

agree_from : (z o d : ℕ) → z < 2 → o < 2 → (z ≡ 1 → d ≡ 0) → (o ≡ 1 → d ≡ 1) → ((nat_eq z 0 || nat_eq d 0) && (nat_eq o 0 || nat_eq d 1)) ≡ true
agree_from z o d p q clear set = grind (arith, nat_tests)

module _ (w k p zeros ones : ℕ) (cube : IsCube w zeros ones) (below : k < 7) (power : p ≡ 1 * 2 ^ k % 2 ^ 128) where
  power_is : p ≡ 2 ^ k
  power_is = power ∙ one_shl k 128 (omega arith)

  not_both : bit_at zeros k ≡ 1 → bit_at ones k ≡ 0
  not_both on = let apart = apart_at w zeros ones cube k in let small = bit_at-lt ones k in grind arith

  abbrev Agreeing : ℕ
  Agreeing = bits_below 128 (λ t. agrees_at (record { zeros = zeros; ones = ones }) t k)

  pub without_bit : (n : ℕ) → bit_and zeros p ≢ 0 → n ≡ with_bit k → 2 ^ 128 - 1 - n ≡ Agreeing
  unfolding agrees_at
  without_bit n some is =
      let on = bit_on zeros k p power_is some in let off = not_both on in
      let fits : n < 2 ^ 128 = subst (λ m. m < 2 ^ 128) (sym is) (bits_below-lt 128 (λ t. nat_eq (bit_at t k) 1)) in
      bits_are 128 (λ t. (nat_eq (bit_at zeros k) 0 || nat_eq (bit_at t k) 0) && (nat_eq (bit_at ones k) 0 || nat_eq (bit_at t k) 1)) (2 ^ 128 - 1 - n) (omega arith)
      (λ t small.
      let digit : bit_at n t ≡ bit_at t k = ap (λ m. bit_at m t) is ∙ bit_at-bits_below 128 (λ t. nat_eq (bit_at t k) 1) t small ∙ flag_one (bit_at t k) (bit_at-lt t k) in
      complement_at 128 n t fits small ∙ ap (λ d. 1 - d) digit ∙ sym (flag_zero (bit_at t k) (bit_at-lt t k))
      ∙ ap flag (sym (by_zero (bit_at zeros k) (bit_at ones k) (bit_at t k) on off)))

  pub having_bit : (n : ℕ) → bit_and zeros p ≡ 0 → bit_and ones p ≢ 0 → n ≡ with_bit k → n ≡ Agreeing
  unfolding agrees_at
  having_bit n none some is =
      let off = bit_off zeros k p power_is none in let on = bit_on ones k p power_is some in
      is ∙ bits_alike 128 (λ t. nat_eq (bit_at t k) 1)
      (λ t. (nat_eq (bit_at zeros k) 0 || nat_eq (bit_at t k) 0) && (nat_eq (bit_at ones k) 0 || nat_eq (bit_at t k) 1))
      (λ t small. sym (by_one (bit_at zeros k) (bit_at ones k) (bit_at t k) off on))

  pub any_bit : bit_and zeros p ≡ 0 → bit_and ones p ≡ 0 → 2 ^ 128 - 1 ≡ Agreeing
  unfolding agrees_at
  any_bit none no_ones =
      let off = bit_off zeros k p power_is none in let clear = bit_off ones k p power_is no_ones in
      bits_are 128 (λ t. (nat_eq (bit_at zeros k) 0 || nat_eq (bit_at t k) 0) && (nat_eq (bit_at ones k) 0 || nat_eq (bit_at t k) 1)) (2 ^ 128 - 1) (omega arith)
      (λ t small. bit_at_ones 128 t small ∙ sym (flag-true _ (by_none (bit_at zeros k) (bit_at ones k) (bit_at t k) off clear)))

-- ---- the amounts that agree with known bits

all_step : (k : ℕ) (p : ℕ → Bool) → all_below (k + 1) p ≡ (p k && all_below k p)
unfolding all_below
all_step k p = rw (add-one k) refl

swap : (a b c : Bool) → c ≡ (b && a) → (a && b) ≡ c
swap a b c e = grind arith

module _ (w zeros ones : ℕ) (width : IsWidth w) (cube : IsCube w zeros ones) where
  abbrev Agrees : ℕ → ℕ → Bool
  Agrees t = agrees_at (record { zeros = zeros; ones = ones }) t

  -- an amount has bits below place 7 alone
  pub none_agree : ones / 2 ^ 7 ≢ 0 → 0 ≡ bits_below w (in_masks w (record { zeros = zeros; ones = ones }))
  none_agree large = no_bits w (in_masks w (record { zeros = zeros; ones = ones })) (λ t below. untrue _ (λ passes.
      let member = in_masks_at w zeros ones cube t passes in
      let inside = subset_from t ones member.one in let less = and_le_l t ones in
      let most = width.most in
      absurd (large (none (ones) (omega arith)))))
    where
      none : (n : ℕ) → n < 128 → n / 2 ^ 7 ≡ 0
      none n small = omega arith

  pub all_at_first : (most : ℕ) → most + 1 ≡ 2 ^ w → most ≡ bits_below w (λ t. all_below 0 (Agrees t))
  unfolding all_below
  all_at_first most top =
      let same : most ≡ 2 ^ w - 1 = omega arith in
      same ∙ bits_are w (λ t. true) (2 ^ w - 1) (let some = pow_pos w in omega arith) (λ i below. bit_at_ones w i below ∙ sym (flag-true true refl))

  pub all_at_next : (m n k : ℕ) → m ≡ bits_below w (λ t. all_below k (Agrees t)) → n ≡ bits_below 128 (λ t. Agrees t k) →
      bit_and m n ≡ bits_below w (λ t. all_below (k + 1) (Agrees t))
  all_at_next m n k before agreeing =
      both before agreeing ∙ and_bits w 128 (λ t. all_below k (Agrees t)) (λ t. Agrees t k) width.most
      ∙ bits_alike w (λ t. all_below k (Agrees t) && Agrees t k) (λ t. all_below (k + 1) (Agrees t))
      (λ t below. swap (all_below k (Agrees t)) (Agrees t k) (all_below (k + 1) (Agrees t)) (all_step k (Agrees t)))
    where
      both : {a b c d : ℕ} → a ≡ c → b ≡ d → bit_and a b ≡ bit_and c d
      both e f = cc

  -- the places below 7 decide
  member_of : ones / 2 ^ 7 ≡ 0 → (t : ℕ) → t < w → all_below 7 (Agrees t) ≡ true → InCube w zeros ones t
  unfolding agrees_at
  member_of small t below all =
      let most = width.most in
      let above : (i : ℕ) → 7 ≤ i → bit_at t i ≡ 0 = λ i high. bit_at_above t 7 i (omega arith) high in
      record {
        fits = below_width w t below;
        zero = λ i known. elim (cases_lt i 7) [
          | inl low ↦ agree_zero (bit_at zeros i) (bit_at ones i) (bit_at t i) (all_pass 7 (Agrees t) all i low) known
          | inr high ↦ above i high
        ];
        one = λ i known. elim (cases_lt i 7) [
          | inl low ↦ agree_one (bit_at zeros i) (bit_at ones i) (bit_at t i) (all_pass 7 (Agrees t) all i low) known
          | inr high ↦ absurd (let none = bit_at_above ones 7 i (few ones small) high in omega arith)
        ];
      }
    where
      few : (n : ℕ) → n / 2 ^ 7 ≡ 0 → n < 2 ^ 7
      few n none = omega arith

  all_of : (t : ℕ) → InCube w zeros ones t → all_below 7 (Agrees t) ≡ true
  unfolding agrees_at
  all_of t member = all_from 7 (Agrees t) (λ i low.
      agree_from (bit_at zeros i) (bit_at ones i) (bit_at t i) (bit_at-lt zeros i) (bit_at-lt ones i) (member.zero i) (member.one i))

  pub all_agree : (m k : ℕ) → ones / 2 ^ 7 ≡ 0 → k ≡ 7 → m ≡ bits_below w (λ t. all_below k (Agrees t)) →
      m ≡ bits_below w (in_masks w (record { zeros = zeros; ones = ones }))
  all_agree m k small last is =
      is ∙ ap (λ n. bits_below w (λ t. all_below n (Agrees t))) last
      ∙ bits_alike w (λ t. all_below 7 (Agrees t)) (in_masks w (record { zeros = zeros; ones = ones }))
      (λ t below. same_answers _ _ (λ all. in_masks_from w zeros ones cube t (member_of small t below all))
      (λ passes. all_of t (in_masks_at w zeros ones cube t passes)))

-- ---- the amounts of a fact

pub fact_bits : (w a b : ℕ) (n : Numbers) → a ≡ bits_below w (in_masks w (masks_in n)) → b ≡ bits_below w (in_span w (span_in n)) → bit_and a b ≡ bits_below w (in_numbers w n)
unfolding in_numbers
fact_bits w a b n ea eb = both ea eb ∙ and_bits w w (in_masks w (masks_in n)) (in_span w (span_in n)) (omega arith)
  where
    both : {a b c d : ℕ} → a ≡ c → b ≡ d → bit_and a b ≡ bit_and c d
    both e f = cc

pub no_amounts : (w m : ℕ) (S : ℕ → Bool) → 1 ≤ w → m ≡ bits_below w S → m ≡ 0 → ◌≡◌ {A = Option AmountsOf} None (amounts_of w S)
no_amounts w m S one is none = amounts_none w S one (ends_none w (amounts_in w S) (λ t fits. untrue _ (λ member.
    let at = amount_at w S t member in
    let on = ap (λ n. bit_at n t) (sym none ∙ is) ∙ amount_bit w S t at.0 at.1 in let zero = bit_at-zero t in omega arith)))

-- ---- the ends of a mask of amounts

module _ (w m k : ℕ) (S : ℕ → Bool) (width : IsWidth w) (some : 0 < m) (fits : m < 2 ^ w) (is : m ≡ bits_below w S)
    (bound : k < 128) (power_le : 2 ^ k ≤ m) (next_power_gt : m < 2 * 2 ^ k) where
  set_at : (t : ℕ) → bit_at m t ≡ 1 → amounts_in w S t ≡ true
  set_at t on =
      let below = within t on in
      amount_from w S t below (true_from_flag (S t) (sym (bit_at-bits_below w S t below) ∙ ap (λ n. bit_at n t) (sym is) ∙ on))
    where
      within : (t : ℕ) → bit_at m t ≡ 1 → t < w
      within t on = elim (cases_lt t w) [
        | inl below ↦ below
        | inr above ↦ absurd (let none = bit_at_above m w t fits above in omega arith)
      ]

  bit_of : (t : ℕ) → amounts_in w S t ≡ true → bit_at m t ≡ 1
  bit_of t member = let at = amount_at w S t member in ap (λ n. bit_at n t) is ∙ amount_bit w S t at.0 at.1

  least_fits : m < 2 ^ 128
  least_fits = let large = width.most in let power = pow-le-pow_right {n = 2} (lit< tt) large in omega arith

  next_power : 2 * 2 ^ k ≡ 2 ^ (k + 1)
  next_power = let one_back : k + 1 - 1 ≡ k = omega arith in ap (λ n. 2 * 2 ^ n) (sym one_back) ∙ sym (twice (k + 1) (omega arith))

  highest : bit_at m k ≡ 1
  highest =
      let split : m ≡ 1 * 2 ^ k + (m - 2 ^ k) = omega arith in let rest : m - 2 ^ k < 2 ^ k = omega arith in let none : k - k ≡ 0 = omega arith in
      ap (λ n. bit_at n k) split ∙ bit_at_cat_high 1 k (m - 2 ^ k) k rest (omega arith) ∙ ap (bit_at 1) none

  reaches : Reaches (amounts_in w S) (trailing_zeros w128 m) k
  reaches = let lowest = bit_at-trailing_zeros w128 m some least_fits in record {
    first_in = set_at (trailing_zeros w128 m) lowest.1;
    last_in = set_at k highest;
    from = λ t member. elim (cases_lt t (trailing_zeros w128 m)) [
      | inl before ↦ absurd (let none = lowest.2 t before in let on = bit_of t member in omega arith)
      | inr from ↦ from
    ];
    upto = λ t member. elim (cases_lt t (k + 1)) [
      | inl before ↦ let less = before in omega arith
      | inr after ↦ absurd (let none = bit_at_above m (k + 1) t (let next = next_power in omega arith) after in let on = bit_of t member in omega arith)
    ];
  }

  small : (t : ℕ) → amounts_in w S t ≡ true → t < 2 ^ (w - 1)
  small t member = let at = amount_at w S t member in let below = at.0 in let power = lt_pow (w - 1) in omega arith

  pub mask_ends : ends_in w (amounts_in w S) ≡ Some (record { lo = trailing_zeros w128 m; hi = k; slo = pos (trailing_zeros w128 m); shi = pos k })
  mask_ends =
      ends_of_low w (amounts_in w S) (amounts_in w S) (λ x. false) width.least
      (λ x member. let at = amount_at w S x member in below_width w x at.0)
      (λ x member. (member, small x member)) (λ x never. absurd (true≢false (sym never))) (λ x member. inl member)
      (trailing_zeros w128 m) k reaches (λ x never. true≢false (sym never))
      ∙ readings (signed_of w (trailing_zeros w128 m)) (signed_of w k) (reading_low w (trailing_zeros w128 m) (small (trailing_zeros w128 m) reaches.first_in)) (reading_low w k (small k reaches.last_in))
    where
      readings : (a b : ℤ) → a ≡ pos (trailing_zeros w128 m) → b ≡ pos k →
          ◌≡◌ {A = Option EndsOf} (Some (record { lo = trailing_zeros w128 m; hi = k; slo = a; shi = b }))
          (Some (record { lo = trailing_zeros w128 m; hi = k; slo = pos (trailing_zeros w128 m); shi = pos k }))
      readings a b ea eb = cc
