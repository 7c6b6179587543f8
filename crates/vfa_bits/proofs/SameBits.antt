-- Numbers with the same digits where a mask has ones, and what operations make of them.
use Rattle.std.proofs.Common.{◌≡◌, ℕ, ◌+◌, ◌-◌, ◌*◌, ◌/◌, ◌%◌, ◌^◌, ◌<◌, ◌≤◌, min, max, Bool, true, false, refl, sym, ◌∙◌, ap, subst, subst₂, arith, pow_mono, inl, inr, ◌⊎◌, pos, bit_and, bit_or, bit_xor, mod-eq_of_lt}
use Rattle.std.specs.Prelude.{◌-ℤ◌, nat_lt, nat_eq, if◌then◌else◌}
use Rattle.std.specs.Int.{bit_at, bit_not, leading_zeros, w128}
use Rattle.std.proofs.lemmas.Bool.{cases_lt, lt-ltb}
use Rattle.std.proofs.lemmas.Nat.{pow_pos, leading_length, mul-mod, mod_below}
use Rattle.std.proofs.lemmas.Nat.Bits.{bit_at-lt, bit_at-zero, bit_at_and, bit_at_or, bit_at_xor, bit_at_above, bit_at_ones, bit_at_not, bit_at-pow_same, same_from_bits_below}
use Rattle.std.proofs.Math.Nat.{add-mod_left, add-mod-mod, mod-add-mod, add-mul-mod_self_right}
use Rattle.vfa_dom.proofs.Bests.{digit_cases}
use Rattle.vfa_word.specs.Numbers.{IsWidth, wrap}
use Rattle.vfa_word.specs.Operations.{shifted_left, shifted_right, shifted_right_signed, sign_extended}
use Rattle.vfa_word.proofs.Wrapping.{wrap_below, wrap_difference_is, power_split}
use Rattle.std.proofs.lemmas.Bool.Decides.{nat_tests}
use Rattle.vfa_known.proofs.Places.{bit_at_mod, bit_at_shr, bit_at_shl_low, bit_at_shl_high, signed_digit, sext_moves}
use Rattle.vfa_demand.specs.Masks.{IsPartOf}
use Rattle.vfa_demand.specs.Rows.{all_bits, up_to, sign_if}

-- the same digits wherever the mask has a one
pub record SameOn (d x y : ℕ) : Type 0 where
  pub at : (i : ℕ) → bit_at d i ≡ 1 → bit_at x i ≡ bit_at y i

pub same_self : (d x : ℕ) → SameOn d x x
same_self d x = record { at = λ i on. refl }

pub same_equal : (d x y : ℕ) → x ≡ y → SameOn d x y
same_equal d x y e = subst (SameOn d x) e (same_self d x)

pub same_none : (x y : ℕ) → SameOn 0 x y
same_none x y = record { at = λ i on. absurd (let z = bit_at-zero i in omega arith) }

-- where a part has a one, the whole has
part_at : (a b i : ℕ) → IsPartOf a b → bit_at a i ≡ 1 → bit_at b i ≡ 1
part_at a b i part on =
    let law : min (bit_at a i) (bit_at b i) ≡ bit_at a i = sym (bit_at_and a b i) ∙ ap (λ n. bit_at n i) part in
    let small = bit_at-lt b i in
    omega arith

pub same_part : (a b x y : ℕ) → IsPartOf a b → SameOn b x y → SameOn a x y
same_part a b x y part same = record { at = λ i on. same.at i (part_at a b i part on) }

-- all bits of the width are asked for: the numbers are one
pub same_all : (w d x y : ℕ) → IsPartOf (all_bits w) d → x < 2 ^ w → y < 2 ^ w → SameOn d x y → x ≡ y
same_all w d x y part small small' same =
    same_from_bits_below w x y small small' (λ i below. same.at i (part_at (all_bits w) d i part (bit_at_ones w i below)))

pub same_whole : (w x y : ℕ) → x < 2 ^ w → y < 2 ^ w → SameOn (all_bits w) x y → x ≡ y
same_whole w x y small small' same = same_from_bits_below w x y small small' (λ i below. same.at i (bit_at_ones w i below))

-- ---- the low bits of a mask

-- how many bits a mask has up to its highest one
length_of : ℕ → ℕ
length_of d = 128 - leading_zeros w128 d

record HasLength (d k : ℕ) : Type 0 where
  up : up_to d ≡ 2 ^ k - 1
  below : d < 2 ^ k

mask_length : (d : ℕ) → d < 2 ^ 128 → HasLength d (128 - leading_zeros w128 d)
unfolding up_to
mask_length d fits =
    let l = leading_length 128 d fits in
    let m : l.0 ≡ 128 - leading_zeros w128 d = let e = l.1 in omega arith in
    record { up = refl; below = subst (λ k. d < 2 ^ k) m l.2 }

-- the same remainder
low_digits : (k x y : ℕ) → SameOn (2 ^ k - 1) x y → x % 2 ^ k ≡ y % 2 ^ k
low_digits k x y same = same_from_bits_below k (x % 2 ^ k) (y % 2 ^ k) (mod_below x (2 ^ k) (pow_pos k)) (mod_below y (2 ^ k) (pow_pos k))
    (λ i below. bit_at_mod x k i below ∙ same.at i (bit_at_ones k i below) ∙ sym (bit_at_mod y k i below))

pub on_below : (d k i : ℕ) → d < 2 ^ k → bit_at d i ≡ 1 → i < k
on_below d k i fits on = elim (cases_lt i k) [
  | inl below ↦ below
  | inr above ↦ absurd (let none = bit_at_above d k i fits above in omega arith)
]

from_low : (d k x y : ℕ) → d < 2 ^ k → x % 2 ^ k ≡ y % 2 ^ k → SameOn d x y
from_low d k x y fits e = record {
  at = λ i on.
      let below = on_below d k i fits on in
      sym (bit_at_mod x k i below) ∙ ap (λ n. bit_at n i) e ∙ bit_at_mod y k i below;
}

-- cut to a width, the same digits stay the same
pub same_cut : (d w x y : ℕ) → SameOn d x y → SameOn d (x % 2 ^ w) (y % 2 ^ w)
same_cut d w x y same = record {
  at = λ i on. elim (cases_lt i w) [
    | inl below ↦ bit_at_mod x w i below ∙ same.at i on ∙ sym (bit_at_mod y w i below)
    | inr above ↦
        bit_at_above (x % 2 ^ w) w i (mod_below x (2 ^ w) (pow_pos w)) above
        ∙ sym (bit_at_above (y % 2 ^ w) w i (mod_below y (2 ^ w) (pow_pos w)) above)
  ];
}

-- an operation whose low digits are made of low digits alone
record IsLow (op : ℕ → ℕ → ℕ) : Type 0 where
  low : (k x y x' y' : ℕ) → x % 2 ^ k ≡ x' % 2 ^ k → y % 2 ^ k ≡ y' % 2 ^ k → op x y % 2 ^ k ≡ op x' y' % 2 ^ k

low_same : (op : ℕ → ℕ → ℕ) (w d x y x' y' : ℕ) → IsLow op → d < 2 ^ 128 → SameOn (up_to d) x x' → SameOn (up_to d) y y' →
    SameOn d (op x y % 2 ^ w) (op x' y' % 2 ^ w)
low_same op w d x y x' y' is fits a b =
    let k = 128 - leading_zeros w128 d in
    let length = mask_length d fits in
    let a' = subst (λ m. SameOn m x x') length.up a in
    let b' = subst (λ m. SameOn m y y') length.up b in
    same_cut d w (op x y) (op x' y')
    (from_low d k (op x y) (op x' y') length.below (is.low k x y x' y' (low_digits k x x' a') (low_digits k y y' b')))

add_low : IsLow (λ x y. x + y)
add_low = record { low = λ k x y x' y' e f. sums (2 ^ k) x y x' y' (pow_pos k) e f }
  where
    sums : (m x y x' y' : ℕ) → 0 < m → x % m ≡ x' % m → y % m ≡ y' % m → (x + y) % m ≡ (x' + y') % m
    sums m x y x' y' p e f =
        sym (mod-add-mod x m y) ∙ ap (λ a. (a + y) % m) e ∙ mod-add-mod x' m y
        ∙ sym (add-mod-mod x' y m) ∙ ap (λ b. (x' + b) % m) f ∙ add-mod-mod x' y' m

mul_low : IsLow (λ x y. x * y)
mul_low = record {
  low = λ k x y x' y' e f. mul-mod x y (2 ^ k) ∙ ap (λ a. a * (y % 2 ^ k) % 2 ^ k) e ∙ ap (λ b. x' % 2 ^ k * b % 2 ^ k) f ∙ sym (mul-mod x' y' (2 ^ k));
}

pub add_same : (w d x y x' y' : ℕ) → d < 2 ^ 128 → SameOn (up_to d) x x' → SameOn (up_to d) y y' → SameOn d ((x + y) % 2 ^ w) ((x' + y') % 2 ^ w)
add_same w d x y x' y' fits a b = low_same (λ x y. x + y) w d x y x' y' add_low fits a b

pub mul_same : (w d x y x' y' : ℕ) → d < 2 ^ 128 → SameOn (up_to d) x x' → SameOn (up_to d) y y' → SameOn d ((x * y) % 2 ^ w) ((x' * y') % 2 ^ w)
mul_same w d x y x' y' fits a b = low_same (λ x y. x * y) w d x y x' y' mul_low fits a b

-- what is left to a multiple, by the remainder
left_to : (m n y p : ℕ) → 0 < m → n + y ≡ p * m → n % m ≡ (if nat_eq (y % m) 0 then 0 else m - y % m)
left_to m n y p positive sum = by (n % m) (y % m) (mod_below n m positive) (mod_below y m positive) whole
  where
    whole : (n % m + y % m) % m ≡ 0
    whole = mod-add-mod n m (y % m) ∙ add-mod-mod n y m ∙ ap (λ s. s % m) sum ∙ multiple
      where
        multiple : p * m % m ≡ 0
        multiple = ap (λ s. s % m) (zero_first (p * m)) ∙ add-mul-mod_self_right 0 p m ∙ mod-eq_of_lt positive
          where
            zero_first : (q : ℕ) → q ≡ 0 + q
            zero_first q = omega arith

    by : (a b : ℕ) → a < m → b < m → (a + b) % m ≡ 0 → a ≡ (if nat_eq b 0 then 0 else m - b)
    by a b small small' none = elim (cases_lt (a + b) m) [
      | inl less ↦ let s : a + b ≡ 0 = sym (mod-eq_of_lt less) ∙ none in grind (arith, nat_tests)
      | inr more ↦
          let split : a + b ≡ m + (a + b - m) = omega arith in
          let small_rest : a + b - m < m = omega arith in
          let rest : a + b - m ≡ 0 = sym (mod-eq_of_lt small_rest) ∙ sym (add-mod_left m (a + b - m)) ∙ ap (λ s. s % m) (sym split) ∙ none in
          grind (arith, nat_tests)
    ]

difference_low : (k w x y x' y' : ℕ) → k ≤ w → y ≤ 2 ^ w → y' ≤ 2 ^ w → x % 2 ^ k ≡ x' % 2 ^ k → y % 2 ^ k ≡ y' % 2 ^ k →
    (x + (2 ^ w - y)) % 2 ^ k ≡ (x' + (2 ^ w - y')) % 2 ^ k
difference_low k w x y x' y' within fits fits' e f =
    let p = pow_pos k in
    let split : 2 ^ w ≡ 2 ^ (w - k) * 2 ^ k = power_split w k within in
    let one = left_to (2 ^ k) (2 ^ w - y) y (2 ^ (w - k)) p (omega (arith, split)) in
    let two = left_to (2 ^ k) (2 ^ w - y') y' (2 ^ (w - k)) p (omega (arith, split)) in
    let rests : (2 ^ w - y) % 2 ^ k ≡ (2 ^ w - y') % 2 ^ k = one ∙ ap (λ r. if nat_eq r 0 then 0 else 2 ^ k - r) f ∙ sym two in
    add_low.low k x (2 ^ w - y) x' (2 ^ w - y') e rests

pub sub_same : (w d x y x' y' : ℕ) → d < 2 ^ 128 → x < 2 ^ w → y < 2 ^ w → x' < 2 ^ w → y' < 2 ^ w → SameOn (up_to d) x x' → SameOn (up_to d) y y' →
    SameOn d (wrap w (pos x -ℤ pos y)) (wrap w (pos x' -ℤ pos y'))
sub_same w d x y x' y' fits fx fy fx' fy' a b =
    let k = 128 - leading_zeros w128 d in
    let length = mask_length d fits in
    let a' = low_digits k x x' (subst (λ m. SameOn m x x') length.up a) in
    let b' = low_digits k y y' (subst (λ m. SameOn m y y') length.up b) in
    elim (cases_lt w k) [
      | inl wide ↦
          let p : 2 ^ w ≤ 2 ^ k = pow_mono (omega arith) in
          let ex : x ≡ x' = sym (mod-eq_of_lt (omega arith)) ∙ a' ∙ mod-eq_of_lt (omega arith) in
          let ey : y ≡ y' = sym (mod-eq_of_lt (omega arith)) ∙ b' ∙ mod-eq_of_lt (omega arith) in
          same_equal d (wrap w (pos x -ℤ pos y)) (wrap w (pos x' -ℤ pos y')) (ap (λ n. wrap w (pos n -ℤ pos y)) ex ∙ ap (λ n. wrap w (pos x' -ℤ pos n)) ey)
      | inr within ↦
          subst₂ (λ r r'. SameOn d r r') (sym (wrap_difference_is w x y (omega arith))) (sym (wrap_difference_is w x' y' (omega arith)))
          (same_cut d w (x + (2 ^ w - y)) (x' + (2 ^ w - y'))
          (from_low d k (x + (2 ^ w - y)) (x' + (2 ^ w - y')) length.below (difference_low k w x y x' y' within (omega arith) (omega arith) a' b')))
    ]

-- ---- bit by bit

-- a digit of the first operand is the same, or the second operand has this digit on both sides
abbrev pub SameUnless : ℕ → ℕ → ℕ → ℕ → ℕ → ℕ → Type 0
SameUnless digit x x' y y' i = (bit_at x i ≡ bit_at x' i) ⊎ ((bit_at y i ≡ digit) × (bit_at y' i ≡ digit))

pub and_same : (d x y x' y' : ℕ) → ((i : ℕ) → bit_at d i ≡ 1 → SameUnless 0 x x' y y' i) → ((i : ℕ) → bit_at d i ≡ 1 → SameUnless 0 y y' x x' i) →
    SameOn d (bit_and x y) (bit_and x' y')
and_same d x y x' y' a b = record {
  at = λ i on. bit_at_and x y i ∙ by i (a i on) (b i on) ∙ sym (bit_at_and x' y' i);
}
  where
    none_left : (p q : ℕ) → q ≡ 0 → min p q ≡ 0
    none_left p q e = omega arith

    none_right : (p q : ℕ) → p ≡ 0 → min p q ≡ 0
    none_right p q e = omega arith

    by : (i : ℕ) → SameUnless 0 x x' y y' i → SameUnless 0 y y' x x' i → min (bit_at x i) (bit_at y i) ≡ min (bit_at x' i) (bit_at y' i)
    by i (inr e) b = none_left (bit_at x i) (bit_at y i) e.0 ∙ sym (none_left (bit_at x' i) (bit_at y' i) e.1)
    by i (inl e) (inr k) = none_right (bit_at x i) (bit_at y i) k.0 ∙ sym (none_right (bit_at x' i) (bit_at y' i) k.1)
    by i (inl e) (inl k) = ap (λ p. min p (bit_at y i)) e ∙ ap (min (bit_at x' i)) k

pub or_same : (d x y x' y' : ℕ) → ((i : ℕ) → bit_at d i ≡ 1 → SameUnless 1 x x' y y' i) → ((i : ℕ) → bit_at d i ≡ 1 → SameUnless 1 y y' x x' i) →
    SameOn d (bit_or x y) (bit_or x' y')
or_same d x y x' y' a b = record {
  at = λ i on. bit_at_or x y i ∙ by i (a i on) (b i on) ∙ sym (bit_at_or x' y' i);
}
  where
    one_left : (p q : ℕ) → p < 2 → q ≡ 1 → max p q ≡ 1
    one_left p q l e = omega arith

    one_right : (p q : ℕ) → q < 2 → p ≡ 1 → max p q ≡ 1
    one_right p q l e = omega arith

    by : (i : ℕ) → SameUnless 1 x x' y y' i → SameUnless 1 y y' x x' i → max (bit_at x i) (bit_at y i) ≡ max (bit_at x' i) (bit_at y' i)
    by i (inr e) b = one_left (bit_at x i) (bit_at y i) (bit_at-lt x i) e.0 ∙ sym (one_left (bit_at x' i) (bit_at y' i) (bit_at-lt x' i) e.1)
    by i (inl e) (inr k) = one_right (bit_at x i) (bit_at y i) (bit_at-lt y i) k.0 ∙ sym (one_right (bit_at x' i) (bit_at y' i) (bit_at-lt y' i) k.1)
    by i (inl e) (inl k) = ap (λ p. max p (bit_at y i)) e ∙ ap (max (bit_at x' i)) k

pub xor_same : (d x y x' y' : ℕ) → SameOn d x x' → SameOn d y y' → SameOn d (bit_xor x y) (bit_xor x' y')
xor_same d x y x' y' a b = record {
  at = λ i on. bit_at_xor x y i ∙ ap (λ p. (p + bit_at y i) % 2) (a.at i on) ∙ ap (λ q. (bit_at x' i + q) % 2) (b.at i on) ∙ sym (bit_at_xor x' y' i);
}

-- beside a literal c only the bits of c are asked for, so at each bit the operand is the same or c has a zero
pub let_through_tells : (d c x x' i : ℕ) → SameOn (bit_and d c) x x' → bit_at d i ≡ 1 → (bit_at x i ≡ bit_at x' i) ⊎ (bit_at c i ≡ 0)
let_through_tells d c x x' i same on = elim (digit_cases c i) [
  | inl off ↦ inr off
  | inr one ↦ inl (same.at i (bit_at_and d c i ∙ (let l = on in let r = one in omega arith)))
]

pub left_open_tells : (d c x x' i : ℕ) → d < 2 ^ 128 → c < 2 ^ 128 → SameOn (bit_and d (bit_not w128 c)) x x' → bit_at d i ≡ 1 →
    (bit_at x i ≡ bit_at x' i) ⊎ (bit_at c i ≡ 1)
left_open_tells d c x x' i fits small same on =
    let below = on_below d 128 i fits on in
    elim (digit_cases c i) [
      | inr one ↦ inr one
      | inl off ↦ inl (same.at i (bit_at_and d (bit_not w128 c) i ∙ (let n = bit_at_not w128 c i small below in omega arith)))
    ]

-- ---- shifts and casts

pub left_same : (w d x x' t : ℕ) → SameOn (d / 2 ^ t) x x' → SameOn d (shifted_left w x t) (shifted_left w x' t)
left_same w d x x' t same = same_cut d w (x * 2 ^ t) (x' * 2 ^ t) (record {
  at = λ i on. elim (cases_lt i t) [
    | inl low ↦ bit_at_shl_low x t i low ∙ sym (bit_at_shl_low x' t i low)
    | inr high ↦
        let there : bit_at (d / 2 ^ t) (i - t) ≡ 1 = bit_at_shr d t (i - t) ∙ ap (bit_at d) (omega arith) ∙ on in
        bit_at_shl_high x t i high ∙ same.at (i - t) there ∙ sym (bit_at_shl_high x' t i high)
  ];
})

pub left_low_same : (w d x x' t : ℕ) → d < 2 ^ 128 → SameOn (up_to d) x x' → SameOn d (shifted_left w x t) (shifted_left w x' t)
left_low_same w d x x' t fits same =
    let k = 128 - leading_zeros w128 d in
    let length = mask_length d fits in
    let same' = subst (λ m. SameOn m x x') length.up same in
    same_cut d w (x * 2 ^ t) (x' * 2 ^ t) (record {
      at = λ i on. elim (cases_lt i t) [
        | inl low ↦ bit_at_shl_low x t i low ∙ sym (bit_at_shl_low x' t i low)
        | inr high ↦
            let below = on_below d k i length.below on in
            let there : bit_at (2 ^ k - 1) (i - t) ≡ 1 = bit_at_ones k (i - t) (omega arith) in
            bit_at_shl_high x t i high ∙ same'.at (i - t) there ∙ sym (bit_at_shl_high x' t i high)
      ];
    })

-- the digits asked for, at the place where they stood
moved_on : (w d t i : ℕ) → t + i < w → bit_at d i ≡ 1 → bit_at (shifted_left w d t) (t + i) ≡ 1
moved_on w d t i below on =
    bit_at_mod (d * 2 ^ t) w (t + i) below ∙ bit_at_shl_high d t (t + i) (omega arith) ∙ ap (bit_at d) (omega arith) ∙ on

pub right_same : (w d x x' t : ℕ) → x < 2 ^ w → x' < 2 ^ w → SameOn (shifted_left w d t) x x' → SameOn d (shifted_right x t) (shifted_right x' t)
right_same w d x x' t fits fits' same = record {
  at = λ i on. bit_at_shr x t i ∙ elim (cases_lt (t + i) w) [
    | inl below ↦ same.at (t + i) (moved_on w d t i below on)
    | inr above ↦ bit_at_above x w (t + i) fits above ∙ sym (bit_at_above x' w (t + i) fits' above)
  ] ∙ sym (bit_at_shr x' t i);
}

or_on_left : (a b i : ℕ) → bit_at a i ≡ 1 → bit_at (bit_or a b) i ≡ 1
or_on_left a b i on = let law = bit_at_or a b i in let small = bit_at-lt b i in omega arith

or_on_right : (a b i : ℕ) → bit_at b i ≡ 1 → bit_at (bit_or a b) i ≡ 1
or_on_right a b i on = let law = bit_at_or a b i in let small = bit_at-lt a i in omega arith

-- a mask with a bit at or above k is greater than all bits below k
above_tells : (d k i : ℕ) → k ≤ i → bit_at d i ≡ 1 → nat_lt (2 ^ k - 1) d ≡ true
above_tells d k i above on = elim (cases_lt (2 ^ k - 1) d) [
  | inl less ↦ lt-ltb (2 ^ k - 1) d less
  | inr most ↦ absurd (let p = pow_pos k in let none = bit_at_above d k i (omega arith) above in omega arith)
]

sign_on : (w : ℕ) (t : Bool) → t ≡ true → bit_at (sign_if t w) (w - 1) ≡ 1
sign_on w true e = bit_at-pow_same (w - 1)
sign_on w false e = absurd (cc)

-- of numbers of a width only the digits below it count
below_width : (w d r r' : ℕ) → r < 2 ^ w → r' < 2 ^ w → ((i : ℕ) → i < w → bit_at d i ≡ 1 → bit_at r i ≡ bit_at r' i) → SameOn d r r'
below_width w d r r' fits fits' same = record {
  at = λ i on. elim (cases_lt i w) [
    | inl below ↦ same i below on
    | inr above ↦ bit_at_above r w i fits above ∙ sym (bit_at_above r' w i fits' above)
  ];
}

pub signed_same : (w d x x' t : ℕ) → IsWidth w → t < w → x < 2 ^ w → x' < 2 ^ w →
    SameOn (bit_or (shifted_left w d t) (sign_if (nat_lt (2 ^ (w - t) - 1) d) w)) x x' → SameOn d (shifted_right_signed w x t) (shifted_right_signed w x' t)
signed_same w d x x' t width amount fits fits' same =
    below_width w d (shifted_right_signed w x t) (shifted_right_signed w x' t) (wrap_below w _) (wrap_below w _) (λ i below on.
    let least = width.least in
    signed_digit w w t x i least (omega arith) fits below
    ∙ same.at (min (t + i) (w - 1)) (asked i below on)
    ∙ sym (signed_digit w w t x' i least (omega arith) fits' below))
  where
    asked : (i : ℕ) → i < w → bit_at d i ≡ 1 →
        bit_at (bit_or (shifted_left w d t) (sign_if (nat_lt (2 ^ (w - t) - 1) d) w)) (min (t + i) (w - 1)) ≡ 1
    asked i below on = elim (cases_lt (t + i) w) [
      | inl inside ↦
          let place : t + i ≡ min (t + i) (w - 1) = omega arith in
          ap (bit_at (bit_or (shifted_left w d t) (sign_if (nat_lt (2 ^ (w - t) - 1) d) w))) (sym place)
          ∙ or_on_left (shifted_left w d t) (sign_if (nat_lt (2 ^ (w - t) - 1) d) w) (t + i) (moved_on w d t i inside on)
      | inr outside ↦
          let place : w - 1 ≡ min (t + i) (w - 1) = omega arith in
          ap (bit_at (bit_or (shifted_left w d t) (sign_if (nat_lt (2 ^ (w - t) - 1) d) w))) (sym place)
          ∙ or_on_right (shifted_left w d t) (sign_if (nat_lt (2 ^ (w - t) - 1) d) w) (w - 1)
          (sign_on w (nat_lt (2 ^ (w - t) - 1) d) (above_tells d (w - t) i (omega arith) on))
    ]

-- a digit of a number whose sign is copied
extended_digit : (v w x i : ℕ) → IsWidth v → IsWidth w → v < w → x < 2 ^ v → i < w → bit_at (sign_extended v w x) i ≡ bit_at x (min i (v - 1))
extended_digit v w x i from width wider fits below = (sext_moves v w from width wider).digit x i fits below

pub extended_same : (v w d x x' : ℕ) → IsWidth v → IsWidth w → v < w → x < 2 ^ v → x' < 2 ^ v →
    SameOn (bit_or (d % 2 ^ v) (sign_if (nat_lt (2 ^ (v - 1) - 1) d) v)) x x' → SameOn d (sign_extended v w x) (sign_extended v w x')
extended_same v w d x x' from width wider fits fits' same =
    below_width w d (sign_extended v w x) (sign_extended v w x') (wrap_below w _) (wrap_below w _) (λ i below on.
    extended_digit v w x i from width wider fits below
    ∙ same.at (min i (v - 1)) (asked i on)
    ∙ sym (extended_digit v w x' i from width wider fits' below))
  where
    asked : (i : ℕ) → bit_at d i ≡ 1 → bit_at (bit_or (d % 2 ^ v) (sign_if (nat_lt (2 ^ (v - 1) - 1) d) v)) (min i (v - 1)) ≡ 1
    asked i on = elim (cases_lt i v) [
      | inl inside ↦
          let place : i ≡ min i (v - 1) = omega arith in
          ap (bit_at (bit_or (d % 2 ^ v) (sign_if (nat_lt (2 ^ (v - 1) - 1) d) v))) (sym place)
          ∙ or_on_left (d % 2 ^ v) (sign_if (nat_lt (2 ^ (v - 1) - 1) d) v) i (bit_at_mod d v i inside ∙ on)
      | inr outside ↦
          let place : v - 1 ≡ min i (v - 1) = omega arith in
          ap (bit_at (bit_or (d % 2 ^ v) (sign_if (nat_lt (2 ^ (v - 1) - 1) d) v))) (sym place)
          ∙ or_on_right (d % 2 ^ v) (sign_if (nat_lt (2 ^ (v - 1) - 1) d) v) (v - 1)
          (sign_on v (nat_lt (2 ^ (v - 1) - 1) d) (above_tells d (v - 1) i (omega arith) on))
    ]

pub zero_same : (v d x x' : ℕ) → x < 2 ^ v → x' < 2 ^ v → SameOn (d % 2 ^ v) x x' → SameOn d x x'
zero_same v d x x' fits fits' same = below_width v d x x' fits fits' (λ i below on. same.at i (bit_at_mod d v i below ∙ on))

-- no copy of the sign is asked for: zeros do
pub unseen_same : (v w d x x' : ℕ) → IsWidth v → IsWidth w → v < w → d < 2 ^ v → x < 2 ^ v →
    SameOn (bit_or (d % 2 ^ v) (sign_if (nat_lt (2 ^ (v - 1) - 1) d) v)) x x' → SameOn d (sign_extended v w x) x'
unseen_same v w d x x' from width wider unseen fits same = record {
  at = λ i on.
      let below = on_below d v i unseen on in
      let place : i ≡ min i (v - 1) = omega arith in
      extended_digit v w x i from width wider fits (omega arith) ∙ ap (bit_at x) (sym place)
      ∙ same.at i (or_on_left (d % 2 ^ v) (sign_if (nat_lt (2 ^ (v - 1) - 1) d) v) i (bit_at_mod d v i below ∙ on));
}
