-- Operations that work bit by bit: what is best of each digit is best of the whole.
use Rattle.std.proofs.Common.{◌≡◌, ℕ, ◌+◌, ◌-◌, ◌%◌, ◌^◌, ◌<◌, min, max, refl, sym, ◌∙◌, ap, arith, inl, inr, bit_and, bit_or, bit_xor}
use Rattle.std.specs.Int.{bit_at}
use Rattle.std.proofs.lemmas.Bool.{cases_eq, cases_lt}
use Rattle.std.proofs.lemmas.Nat.{or_lt, xor_lt, and_le_l}
use Rattle.std.proofs.lemmas.Nat.Bits.{bit_at-lt, bit_at_and, bit_at_or, bit_at_xor, bit_at_above}
use Rattle.vfa_dom.specs.Best.{Masks, IsBest}
use Rattle.vfa_dom.proofs.Bests.{digit_cases, HasDigit}
use Rattle.vfa_dom.proofs.ResultSets.{StaysIn}
use Rattle.vfa_known.specs.Cube.{IsCube, InCube}
use Rattle.vfa_known.proofs.Cubes.{apart_at, ones_in, with_bit_in, with_bit_at, IsCubeResult}

-- a digit that agrees with what is known of it: p says known zero, q known one
pub record Agrees (p q d : ℕ) : Type 0 where
  pub digit : d < 2
  pub zero : p ≡ 1 → d ≡ 0
  pub one : q ≡ 1 → d ≡ 1

-- digits that agree and give this one
pub record Gives (g : ℕ → ℕ → ℕ) (p q r s digit : ℕ) : Type 0 where
  pub left : ℕ
  pub right : ℕ
  pub left_agrees : Agrees p q left
  pub right_agrees : Agrees r s right
  pub is : g left right ≡ digit

-- z and o are best for one digit of the result
pub record IsBestDigit (g : ℕ → ℕ → ℕ) (p q r s z o : ℕ) : Type 0 where
  pub zero : (d e : ℕ) → Agrees p q d → Agrees r s e → z ≡ 1 → g d e ≡ 0
  pub one : (d e : ℕ) → Agrees p q d → Agrees r s e → o ≡ 1 → g d e ≡ 1
  pub some_one : z ≡ 0 → Gives g p q r s 1
  pub some_zero : o ≡ 0 → Gives g p q r s 0

-- what the digits of two masks of a cube can be
pub record AreDigits (p q : ℕ) : Type 0 where
  pub left : p < 2
  pub right : q < 2
  pub apart : min p q ≡ 0

module _ (w zeros ones : ℕ) (cube : IsCube w zeros ones) where
  pub digits_at : (i : ℕ) → AreDigits (bit_at zeros i) (bit_at ones i)
  digits_at i = record { left = bit_at-lt zeros i; right = bit_at-lt ones i; apart = apart_at w zeros ones cube i }

  pub member_agrees : (x i : ℕ) → InCube w zeros ones x → Agrees (bit_at zeros i) (bit_at ones i) (bit_at x i)
  member_agrees x i member = record { digit = bit_at-lt x i; zero = member.zero i; one = member.one i }

  -- a member with a digit that agrees
  pub member_with : (i d : ℕ) → i < w → Agrees (bit_at zeros i) (bit_at ones i) d → HasDigit (InCube w zeros ones) i d
  member_with i d below agrees = elim (digit_cases ones i) [
    | inr known ↦ record { at = ones; member = ones_in w zeros ones cube; is = known ∙ sym (agrees.one known) }
    | inl clear ↦ elim (cases_eq d 0) [
      | inl off ↦ record { at = ones; member = ones_in w zeros ones cube; is = clear ∙ sym off }
      | inr on ↦
          let one : d ≡ 1 = let small = agrees.digit in grind arith in
          let free : bit_at zeros i ≡ 0 = let small = bit_at-lt zeros i in let known = agrees.zero in grind arith in
          record { at = bit_or ones (2 ^ i); member = with_bit_in w zeros ones cube i below free; is = with_bit_at w zeros ones cube i ∙ sym one }
    ]
  ]

-- an operation whose digits are g of the operands' digits
pub record IsBitwise (op g : ℕ → ℕ → ℕ) : Type 0 where
  pub digit : (x y i : ℕ) → bit_at (op x y) i ≡ g (bit_at x i) (bit_at y i)

module _ (w : ℕ) (op g : ℕ → ℕ → ℕ) (a b : Masks) (left_cube : IsCube w a.zeros a.ones) (right_cube : IsCube w b.zeros b.ones)
    (bitwise : IsBitwise op g) (zeros ones : ℕ)
    (each : (i : ℕ) → i < w → IsBestDigit g (bit_at a.zeros i) (bit_at a.ones i) (bit_at b.zeros i) (bit_at b.ones i) (bit_at zeros i) (bit_at ones i)) where
  gives_result : (i digit : ℕ) → i < w → Gives g (bit_at a.zeros i) (bit_at a.ones i) (bit_at b.zeros i) (bit_at b.ones i) digit →
      HasDigit (IsCubeResult w op a b) i digit
  gives_result i digit below gives =
      let one = member_with w a.zeros a.ones left_cube i gives.left below gives.left_agrees in
      let two = member_with w b.zeros b.ones right_cube i gives.right below gives.right_agrees in
      record {
        at = op one.at two.at;
        member = record { left = one.at; right = two.at; left_in = one.member; right_in = two.member; is = refl };
        is = bitwise.digit one.at two.at i ∙ ap (λ d. g d (bit_at two.at i)) one.is ∙ ap (g gives.left) two.is ∙ gives.is;
      }

  pub bitwise_best : zeros < 2 ^ w → ones < 2 ^ w → IsBest w (IsCubeResult w op a b) zeros ones
  bitwise_best zeros_fit ones_fit = record {
    zeros_fit = zeros_fit;
    ones_fit = ones_fit;
    zero = λ r i result known. elim (cases_lt i w) [
      | inl below ↦ ap (λ n. bit_at n i) (sym result.is) ∙ bitwise.digit result.left result.right i
          ∙ (each i below).zero (bit_at result.left i) (bit_at result.right i)
          (member_agrees w a.zeros a.ones left_cube result.left i result.left_in)
          (member_agrees w b.zeros b.ones right_cube result.right i result.right_in) known
      | inr above ↦ absurd (let none = bit_at_above zeros w i zeros_fit above in omega arith)
    ];
    one = λ r i result known. elim (cases_lt i w) [
      | inl below ↦ ap (λ n. bit_at n i) (sym result.is) ∙ bitwise.digit result.left result.right i
          ∙ (each i below).one (bit_at result.left i) (bit_at result.right i)
          (member_agrees w a.zeros a.ones left_cube result.left i result.left_in)
          (member_agrees w b.zeros b.ones right_cube result.right i result.right_in) known
      | inr above ↦ absurd (let none = bit_at_above ones w i ones_fit above in omega arith)
    ];
    some_one = λ i below clear. let has = gives_result i 1 below ((each i below).some_one clear) in (has.at, has.member, has.is);
    some_zero = λ i below clear. let has = gives_result i 0 below ((each i below).some_zero clear) in (has.at, has.member, has.is);
  }

-- ---- and, or, xor on one digit

zero_side : (p q : ℕ) → AreDigits p q → Agrees p q (1 - p)
zero_side p q digits = record {
  digit = omega arith;
  zero = λ known. omega arith;
  one = λ known. let small = digits.left in let apart = digits.apart in grind arith;
}

one_side : (p q : ℕ) → AreDigits p q → Agrees p q q
one_side p q digits = record {
  digit = digits.right;
  zero = λ known. let small = digits.right in let apart = digits.apart in grind arith;
  one = λ known. known;
}

abbrev pub sum_digit : ℕ → ℕ → ℕ
sum_digit d e = (d + e) % 2

either_side : (d : ℕ) → d < 2 → Agrees 0 0 d
either_side d small = record { digit = small; zero = λ known. absurd (omega arith); one = λ known. absurd (omega arith) }

Agrees-at : (p q p' q' d : ℕ) → p' ≡ p → q' ≡ q → Agrees p q d → Agrees p' q' d
Agrees-at p q p' q' d same same' agrees = record {
  digit = agrees.digit;
  zero = λ known. agrees.zero (sym same ∙ known);
  one = λ known. agrees.one (sym same' ∙ known);
}

module _ (p q r s : ℕ) (one : AreDigits p q) (two : AreDigits r s) where
  -- where the first digit is free, it makes up for the second
  left_free : (digit : ℕ) → digit < 2 → p ≡ 0 → q ≡ 0 → Gives sum_digit p q r s digit
  left_free digit small free free' = record {
    left = (digit + s) % 2;
    right = s;
    left_agrees = Agrees-at 0 0 p q ((digit + s) % 2) free free' (either_side ((digit + s) % 2) (omega arith));
    right_agrees = one_side r s two;
    is = let b = two.right in grind arith;
  }

  right_free : (digit : ℕ) → digit < 2 → r ≡ 0 → s ≡ 0 → Gives sum_digit p q r s digit
  right_free digit small free free' = record {
    left = q;
    right = (digit + q) % 2;
    left_agrees = one_side p q one;
    right_agrees = Agrees-at 0 0 r s ((digit + q) % 2) free free' (either_side ((digit + q) % 2) (omega arith));
    is = let b = one.right in grind arith;
  }

  both_known : (digit : ℕ) → (q + s) % 2 ≡ digit → Gives sum_digit p q r s digit
  both_known digit is = record { left = q; right = s; left_agrees = one_side p q one; right_agrees = one_side r s two; is = is }

  xor_gives : (digit : ℕ) → digit < 2 → (p + q ≡ 1 → r + s ≡ 1 → (q + s) % 2 ≡ digit) → Gives sum_digit p q r s digit
  xor_gives digit small known = elim (cases_eq (p + q) 0) [
    | inl free ↦ left_free digit small (omega arith) (omega arith)
    | inr fixed ↦ elim (cases_eq (r + s) 0) [
      | inl free ↦ right_free digit small (omega arith) (omega arith)
      | inr fixed' ↦ both_known digit (known
          (let a = one.left in let b = one.right in let c = one.apart in grind arith)
          (let a = two.left in let b = two.right in let c = two.apart in grind arith))
    ]
  ]

  xor_gives_one : max (min p r) (min q s) ≡ 0 → Gives sum_digit p q r s 1
  xor_gives_one clear = xor_gives 1 (omega arith) (λ fixed fixed'. grind arith)

  xor_gives_zero : max (min p s) (min q r) ≡ 0 → Gives sum_digit p q r s 0
  xor_gives_zero clear = xor_gives 0 (omega arith) (λ fixed fixed'. grind arith)

  pub and_digit : IsBestDigit min p q r s (max p r) (min q s)
  and_digit = record {
    zero = λ d e left right known. let a = left.zero in let b = right.zero in let c = left.digit in let f = right.digit in let g = one.left in let h = two.left in grind arith;
    one = λ d e left right known. let a = left.one in let b = right.one in let g = one.right in let h = two.right in grind arith;
    some_one = λ clear. record { left = 1 - p; right = 1 - r; left_agrees = zero_side p q one; right_agrees = zero_side r s two; is = grind arith };
    some_zero = λ clear. record { left = q; right = s; left_agrees = one_side p q one; right_agrees = one_side r s two; is = clear };
  }

  pub or_digit : IsBestDigit max p q r s (min p r) (max q s)
  or_digit = record {
    zero = λ d e left right known. let a = left.zero in let b = right.zero in let g = one.left in let h = two.left in grind arith;
    one = λ d e left right known. let a = left.one in let b = right.one in let c = left.digit in let f = right.digit in let g = one.right in let h = two.right in grind arith;
    some_one = λ clear. record { left = 1 - p; right = 1 - r; left_agrees = zero_side p q one; right_agrees = zero_side r s two; is = let g = one.left in let h = two.left in grind arith };
    some_zero = λ clear. record { left = q; right = s; left_agrees = one_side p q one; right_agrees = one_side r s two; is = clear };
  }

  -- the digit of an exclusive or is known where both operands' digits are
  pub xor_digit : IsBestDigit sum_digit p q r s (max (min p r) (min q s)) (max (min p s) (min q r))
  xor_digit = record {
    zero = λ d e left right known.
        let a = left.zero in let b = right.zero in let c = left.one in let f = right.one in
        let g = one.left in let h = two.left in let k = one.right in let m = two.right in grind arith;
    one = λ d e left right known.
        let a = left.zero in let b = right.zero in let c = left.one in let f = right.one in
        let g = one.left in let h = two.left in let k = one.right in let m = two.right in grind arith;
    some_one = λ clear. xor_gives_one clear;
    some_zero = λ clear. xor_gives_zero clear;
  }

-- ---- the masks of the answers

module _ (w : ℕ) (a b : Masks) (left_cube : IsCube w a.zeros a.ones) (right_cube : IsCube w b.zeros b.ones) where
  digits_left : (i : ℕ) → AreDigits (bit_at a.zeros i) (bit_at a.ones i)
  digits_left i = digits_at w a.zeros a.ones left_cube i

  digits_right : (i : ℕ) → AreDigits (bit_at b.zeros i) (bit_at b.ones i)
  digits_right i = digits_at w b.zeros b.ones right_cube i

  and_fits : (x y : ℕ) → x < 2 ^ w → bit_and x y < 2 ^ w
  and_fits x y fits = let less = and_le_l x y in omega arith

  pub and_best : IsBest w (IsCubeResult w bit_and a b) (bit_or a.zeros b.zeros) (bit_and a.ones b.ones)
  and_best = bitwise_best w bit_and min a b left_cube right_cube (record { digit = bit_at_and })
      (bit_or a.zeros b.zeros) (bit_and a.ones b.ones)
      (λ i below. rw (bit_at_or, bit_at_and) (and_digit (bit_at a.zeros i) (bit_at a.ones i) (bit_at b.zeros i) (bit_at b.ones i) (digits_left i) (digits_right i)))
      (or_lt w a.zeros b.zeros left_cube.zeros_fit right_cube.zeros_fit)
      (and_fits a.ones b.ones left_cube.ones_fit)

  pub or_best : IsBest w (IsCubeResult w bit_or a b) (bit_and a.zeros b.zeros) (bit_or a.ones b.ones)
  or_best = bitwise_best w bit_or max a b left_cube right_cube (record { digit = bit_at_or })
      (bit_and a.zeros b.zeros) (bit_or a.ones b.ones)
      (λ i below. rw (bit_at_or, bit_at_and) (or_digit (bit_at a.zeros i) (bit_at a.ones i) (bit_at b.zeros i) (bit_at b.ones i) (digits_left i) (digits_right i)))
      (and_fits a.zeros b.zeros left_cube.zeros_fit)
      (or_lt w a.ones b.ones left_cube.ones_fit right_cube.ones_fit)

  pub xor_best : IsBest w (IsCubeResult w bit_xor a b)
      (bit_or (bit_and a.zeros b.zeros) (bit_and a.ones b.ones)) (bit_or (bit_and a.zeros b.ones) (bit_and a.ones b.zeros))
  xor_best = bitwise_best w bit_xor sum_digit a b left_cube right_cube (record { digit = bit_at_xor })
      (bit_or (bit_and a.zeros b.zeros) (bit_and a.ones b.ones)) (bit_or (bit_and a.zeros b.ones) (bit_and a.ones b.zeros))
      (λ i below. simp (bit_at_or, bit_at_and) (xor_digit (bit_at a.zeros i) (bit_at a.ones i) (bit_at b.zeros i) (bit_at b.ones i) (digits_left i) (digits_right i)))
      (or_lt w (bit_and a.zeros b.zeros) (bit_and a.ones b.ones) (and_fits a.zeros b.zeros left_cube.zeros_fit) (and_fits a.ones b.ones left_cube.ones_fit))
      (or_lt w (bit_and a.zeros b.ones) (bit_and a.ones b.zeros) (and_fits a.zeros b.ones left_cube.zeros_fit) (and_fits a.ones b.zeros left_cube.ones_fit))

-- the operations stay in the width
pub and_stays : (w : ℕ) → StaysIn w bit_and
and_stays w = record { fits = λ x y left right. let less = and_le_l x y in omega arith }

pub or_stays : (w : ℕ) → StaysIn w bit_or
or_stays w = record { fits = λ x y left right. or_lt w x y left right }

pub xor_stays : (w : ℕ) → StaysIn w bit_xor
xor_stays w = record { fits = λ x y left right. xor_lt w x y left right }
