-- The numbers between two ends, by the highest place where the ends differ.
use Rattle.std.proofs.Common.{◌≡◌, ℕ, suc, ◌+◌, ◌-◌, ◌*◌, ◌/◌, ◌%◌, ◌^◌, ◌<◌, ◌≤◌, max, refl, sym, ◌∙◌, ap, arith, inl, inr, bit_and, bit_or, bit_xor, pow-suc}
use Rattle.std.specs.Int.{bit_at}
use Rattle.std.proofs.Math.Nat.{div-mul-le_self, pow-le-pow_right}
use Rattle.std.proofs.lemmas.Bool.{cases_lt}
use Rattle.std.proofs.lemmas.Nat.{pow_pos, pow_below, le-div, shr-shr, or_lt, xor_lt}
use Rattle.std.proofs.lemmas.Nat.Bits.{bit_at-lt, bit_at_and, bit_at_or, bit_at_xor, bit_at_above, bit_at-pow_same, bit_at-pow_other, bit_at_lowest, same_from_bits}
use Rattle.vfa_known.proofs.Places.{bit_at_shr}
use Rattle.vfa_known.proofs.Members.{complement_at}
use Rattle.vfa_known.proofs.Searched.{highest_is}

high_le : (x y k : ℕ) → x ≤ y → x / 2 ^ k ≤ y / 2 ^ k
high_le x y k less = let part = div-mul-le_self x (2 ^ k) in le-div (x / 2 ^ k) y (2 ^ k) (pow_pos k) (omega arith)

high_less : (x y k : ℕ) → x / 2 ^ k < y / 2 ^ k → x < y
high_less x y k less = elim (cases_lt x y) [
  | inl is ↦ is
  | inr other ↦ absurd (let more = high_le y x k other in omega arith)
]

-- numbers with the same bits from place k on are the same there
high_same : (x y k : ℕ) → ((i : ℕ) → k ≤ i → bit_at x i ≡ bit_at y i) → x / 2 ^ k ≡ y / 2 ^ k
high_same x y k same = same_from_bits (x / 2 ^ k) (y / 2 ^ k) (λ j. bit_at_shr x k j ∙ same (k + j) (omega arith) ∙ sym (bit_at_shr y k j))

high_bits : (x y k i : ℕ) → x / 2 ^ k ≡ y / 2 ^ k → k ≤ i → bit_at x i ≡ bit_at y i
high_bits x y k i same above =
    let place : i ≡ k + (i - k) = omega arith in
    ap (bit_at x) place ∙ sym (bit_at_shr x k (i - k)) ∙ ap (λ n. bit_at n (i - k)) same ∙ bit_at_shr y k (i - k) ∙ sym (ap (bit_at y) place)

-- n from place k on is twice what it is from the next place on, and its digit there
next_place : (n k : ℕ) → n / 2 ^ k ≡ 2 * (n / 2 ^ (k + 1)) + bit_at n k
next_place n k = two (n / 2 ^ k) (n / 2 ^ (k + 1)) (bit_at n k) (sym (shr-shr n k 1)) refl
  where
    two : (a b d : ℕ) → b ≡ a / 2 → d ≡ a % 2 → a ≡ 2 * b + d
    two a b d eb ed = omega arith

-- what the numbers from a up to b have in common, and two ways to change one bit without leaving them
pub record IsTurn (w a b k : ℕ) : Type 0 where
  pub alike : (x i : ℕ) → a ≤ x → x ≤ b → k < i → bit_at x i ≡ bit_at a i
  pub alike_last : (i : ℕ) → k < i → bit_at b i ≡ bit_at a i
  pub zero_at : (x : ℕ) → a ≤ x → x ≤ b → bit_at b k ≡ 0 → bit_at x k ≡ 0
  pub one_at : (x : ℕ) → a ≤ x → x ≤ b → bit_at a k ≡ 1 → bit_at x k ≡ 1
  pub raised : (i : ℕ) → i < k → bit_or a (2 ^ i) ≤ b
  pub lowered : (i : ℕ) → i < k → a ≤ bit_and b (2 ^ w - 1 - 2 ^ i)

-- ---- the highest place where a and b differ, or 0 where they do not differ above it

same_digit : (p q m : ℕ) → p < 2 → q < 2 → max ((p + q) % 2) m ≡ 0 → p ≡ q
same_digit p q m hp hq e = grind arith

other_digit : (p q m : ℕ) → p < 2 → q < 2 → m ≡ 0 → max ((p + q) % 2) m ≡ 1 → p ≤ q → p < q
other_digit p q m hp hq em e le = grind arith

module _ (w a b k : ℕ) (less : a ≤ b) (fits : b < 2 ^ w) (within : k < w)
    (reach : 2 ^ k ≤ bit_or (bit_xor a b) 1) (bound : bit_or (bit_xor a b) 1 < 2 * 2 ^ k) where
  differ_at : (i : ℕ) → bit_at (bit_or (bit_xor a b) 1) i ≡ max ((bit_at a i + bit_at b i) % 2) (bit_at 1 i)
  differ_at i = bit_at_or (bit_xor a b) 1 i ∙ ap (λ d. max d (bit_at 1 i)) (bit_at_xor a b i)

  above : (i : ℕ) → k < i → bit_at a i ≡ bit_at b i
  above i more = same_digit (bit_at a i) (bit_at b i) (bit_at 1 i) (bit_at-lt a i) (bit_at-lt b i)
      (sym (differ_at i) ∙ bit_at_above (bit_or (bit_xor a b) 1) (suc k) i (omega (arith, pow-suc 2 k)) more)

  high_alike : (x : ℕ) → a ≤ x → x ≤ b → x / 2 ^ (k + 1) ≡ a / 2 ^ (k + 1)
  high_alike x from upto =
      let ends = high_same a b (k + 1) (λ i more. above i (omega arith)) in
      let low = high_le a x (k + 1) from in
      let high = high_le x b (k + 1) upto in
      omega arith

  -- at the place itself the digits rise with the numbers
  digit_rises : (x y : ℕ) → a ≤ x → x ≤ y → y ≤ b → bit_at x k ≤ bit_at y k
  digit_rises x y from between upto =
      let hx = high_alike x from (omega arith) in
      let hy = high_alike y (omega arith) upto in
      let part = high_le x y k between in
      let px = next_place x k in
      let py = next_place y k in
      omega arith

  -- and where there is a place below it, they differ there
  parts_differ : (i : ℕ) → i < k → a / 2 ^ k < b / 2 ^ k
  parts_differ i low =
      let rises = digit_rises a b (omega arith) less (omega arith) in
      let one = highest_is (bit_or (bit_xor a b) 1) k reach bound in
      let none = bit_at_above 1 1 k (omega arith) (omega arith) in
      let differ = other_digit (bit_at a k) (bit_at b k) (bit_at 1 k) (bit_at-lt a k) (bit_at-lt b k) none (sym (differ_at k) ∙ one) rises in
      let ends = high_alike b less (omega arith) in
      let pa = next_place a k in
      let pb = next_place b k in
      omega arith

  raised_high : (i : ℕ) → i < k → bit_or a (2 ^ i) / 2 ^ k ≡ a / 2 ^ k
  raised_high i low = high_same (bit_or a (2 ^ i)) a k (λ j more.
      let law = bit_at_or a (2 ^ i) j in
      let none = bit_at-pow_other i j (λ same. omega arith) in
      grind arith)

  lowered_high : (i : ℕ) → i < k → bit_and b (2 ^ w - 1 - 2 ^ i) / 2 ^ k ≡ b / 2 ^ k
  lowered_high i low = high_same (bit_and b (2 ^ w - 1 - 2 ^ i)) b k (λ j more.
      let law = bit_at_and b (2 ^ w - 1 - 2 ^ i) j in
      let small = bit_at-lt b j in
      elim (cases_lt j w) [
        | inl below ↦
            let other = complement_at w (2 ^ i) j (pow_below i w (omega arith)) below in
            let none = bit_at-pow_other i j (λ same. omega arith) in
            grind arith
        | inr past ↦ let none = bit_at_above b w j fits past in grind arith
      ])

  pub turn_is : IsTurn w a b k
  turn_is = record {
    alike = λ x i from upto more. high_bits x a (k + 1) i (high_alike x from upto) (omega arith);
    alike_last = λ i more. sym (above i more);
    zero_at = λ x from upto off. let rises = digit_rises x b from upto (omega arith) in omega arith;
    one_at = λ x from upto on. let rises = digit_rises a x (omega arith) from upto in let small = bit_at-lt x k in omega arith;
    raised = λ i low.
        let differ = parts_differ i low in let high = raised_high i low in
        let result = high_less (bit_or a (2 ^ i)) b k (omega arith) in omega arith;
    lowered = λ i low.
        let differ = parts_differ i low in let high = lowered_high i low in
        let result = high_less a (bit_and b (2 ^ w - 1 - 2 ^ i)) k (omega arith) in omega arith;
  }

pub or_one : (n : ℕ) → 0 < bit_or n 1
or_one n =
    let law = bit_at_or n 1 0 in
    let one = bit_at-pow_same 0 in
    let low = bit_at_lowest (bit_or n 1) in
    grind arith

pub turn_below : (w a b k : ℕ) → 1 ≤ w → a < 2 ^ w → b < 2 ^ w → 2 ^ k ≤ bit_or (bit_xor a b) 1 → k < w
turn_below w a b k wide low high reach = elim (cases_lt k w) [
  | inl below ↦ below
  | inr past ↦
      let fits = or_lt w (bit_xor a b) 1 (xor_lt w a b low high) (pow_below 0 w (omega arith)) in
      let more = pow-le-pow_right {n = 2} (omega arith) {i = w} {j = k} past in
      absurd (omega arith)
]
