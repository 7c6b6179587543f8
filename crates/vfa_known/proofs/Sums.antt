-- Sums bit by bit: the carries into a bit lie between those of the least and of the greatest choice of the unknown
-- bits below it.
use Rattle.std.proofs.Common.{◌≡◌, ℕ, ◌+◌, ◌-◌, ◌*◌, ◌/◌, ◌%◌, ◌^◌, ◌<◌, ◌≤◌, min, max, Bool, add-zero, refl, sym, ◌∙◌, ap, subst, arith, ◌⊎◌, inl, inr, bit_and, bit_or, bit_xor, pos, ◌-ℤ◌}
use Rattle.std.specs.Int.{bit_at}
use Rattle.std.specs.Int.Bits.{or_zero_r}
use Rattle.std.proofs.Math.Nat.{add-mul-div_right, div-mul-le_self, mul-add-mod_self_right}
use Rattle.std.proofs.lemmas.Bool.{cases_eq, cases_lt}
use Rattle.std.proofs.lemmas.Nat.{and_comm, pow_pos, le-div, div_below, div-add-mod', and_le_l, or_lt, xor_lt, and_mod, or_mod, mod_below}
use Rattle.std.proofs.lemmas.Nat.Bits.{bit_at-lt, bit_at_and, bit_at_or, bit_at_xor, bit_at_above, bit_at_cat_low}
use Rattle.vfa_dom.specs.Best.{Masks, IsBest}
use Rattle.vfa_dom.proofs.Bests.{digit_cases, HasDigit}
use Rattle.vfa_dom.specs.Results.{IsResult}
use Rattle.vfa_dom.proofs.ResultSets.{StaysIn, IsBest-alike, IsResult-alike}
use Rattle.vfa_word.specs.Operations.{sum_of, difference_of}
use Rattle.vfa_word.proofs.Wrapping.{wrap_below, wrap_difference_is}
use Rattle.vfa_known.specs.Cube.{IsCube, InCube, in_masks}
use Rattle.vfa_known.proofs.Cubes.{apart_at, ones_in, with_bit_in, with_bit_at, IsCubeResult, cube_result, result_cube}
use Rattle.vfa_known.proofs.Members.{turned_at, turned_fits, turned_sums, complement_at, subset_from}

-- ---- the digits of a sum

-- the carry into place i
pub carry_into : ℕ → ℕ → ℕ → ℕ → ℕ
carry_into x y c i = (x % 2 ^ i + y % 2 ^ i + c) / 2 ^ i

parts_div : (a b r p n : ℕ) → 0 < p → n ≡ a * p + (b * p + r) → n / p ≡ a + b + r / p
parts_div a b r p n positive same =
    let split : n ≡ r + (a + b) * p = same ∙ regroup a b r p in
    ap (λ k. k / p) split ∙ add-mul-div_right r (a + b) positive ∙ turn (r / p) a b
  where
    regroup : (a b r p : ℕ) → a * p + (b * p + r) ≡ r + (a + b) * p
    regroup a b r p = grind arith

    turn : (q a b : ℕ) → q + (a + b) ≡ a + b + q
    turn q a b = omega arith

digits_sum : (a b k : ℕ) → (a + b + k) % 2 ≡ (a % 2 + b % 2 + k) % 2
digits_sum a b k = omega arith

pub digit_law : (x y c i : ℕ) → bit_at (x + y + c) i ≡ (bit_at x i + bit_at y i + carry_into x y c i) % 2
unfolding carry_into
digit_law x y c i =
    let p : ℕ = 2 ^ i in
    let one = div-add-mod' x (2 ^ i) in
    let two = div-add-mod' y (2 ^ i) in
    let whole : x + y + c ≡ x / 2 ^ i * 2 ^ i + (y / 2 ^ i * 2 ^ i + (x % 2 ^ i + y % 2 ^ i + c)) = omega arith in
    ap (λ n. n % 2) (parts_div (x / 2 ^ i) (y / 2 ^ i) (x % 2 ^ i + y % 2 ^ i + c) (2 ^ i) (x + y + c) (pow_pos i) whole)
    ∙ digits_sum (x / 2 ^ i) (y / 2 ^ i) ((x % 2 ^ i + y % 2 ^ i + c) / 2 ^ i)

pub carry_lt : (x y c i : ℕ) → c ≤ 1 → carry_into x y c i < 2
unfolding carry_into
carry_lt x y c i small =
    let one = mod_below x (2 ^ i) (pow_pos i) in
    let two = mod_below y (2 ^ i) (pow_pos i) in
    div_below (x % 2 ^ i + y % 2 ^ i + c) (2 ^ i) 2 (pow_pos i) (omega arith)

div_le_div : (a b p : ℕ) → 0 < p → a ≤ b → a / p ≤ b / p
div_le_div a b p positive less = let part = div-mul-le_self a p in le-div (a / p) b p positive (omega arith)

-- a number whose bits another has is no greater below any place
pub low_le : (a b k : ℕ) → bit_and b a ≡ a → a % 2 ^ k ≤ b % 2 ^ k
low_le a b k part =
    let same : a % 2 ^ k ≡ bit_and (b % 2 ^ k) (a % 2 ^ k) = ap (λ n. n % 2 ^ k) (sym part) ∙ and_mod b a k in
    let less = and_le_l (b % 2 ^ k) (a % 2 ^ k) in
    omega arith

pub carry_le : (x y x' y' c i : ℕ) → bit_and x' x ≡ x → bit_and y' y ≡ y → carry_into x y c i ≤ carry_into x' y' c i
unfolding carry_into
carry_le x y x' y' c i one two =
    let low = low_le x x' i one in
    let low' = low_le y y' i two in
    div_le_div (x % 2 ^ i + y % 2 ^ i + c) (x' % 2 ^ i + y' % 2 ^ i + c) (2 ^ i) (pow_pos i) (omega arith)

pow_mod_self : (i : ℕ) → 2 ^ i % 2 ^ i ≡ 0
pow_mod_self i = let positive = pow_pos i in mod_self (2 ^ i) positive
  where
    mod_self : (p : ℕ) → 0 < p → p % p ≡ 0
    mod_self p positive = grind arith

-- a bit set at place i does not change the carry into it
pub carry_with_bit : (x y c i : ℕ) → carry_into (bit_or x (2 ^ i)) y c i ≡ carry_into x y c i
unfolding carry_into
carry_with_bit x y c i =
    let same : bit_or x (2 ^ i) % 2 ^ i ≡ x % 2 ^ i =
    or_mod x (2 ^ i) i ∙ ap (bit_or (x % 2 ^ i)) (pow_mod_self i) ∙ or_zero_r (x % 2 ^ i) in
    ap (λ n. (n + y % 2 ^ i + c) / 2 ^ i) same

pub carry_turn : (x y c i : ℕ) → carry_into x y c i ≡ carry_into y x c i
unfolding carry_into
carry_turn x y c i =
    let same : x % 2 ^ i + y % 2 ^ i + c ≡ y % 2 ^ i + x % 2 ^ i + c = omega arith in
    ap (λ n. n / 2 ^ i) same

-- a wrapped number keeps its low bits
pub bit_at-mod : (n k i : ℕ) → i < k → bit_at (n % 2 ^ k) i ≡ bit_at n i
bit_at-mod n k i below =
    sym (bit_at_cat_low (n / 2 ^ k) k (n % 2 ^ k) i below) ∙ ap (λ m. bit_at m i) (div-add-mod' n (2 ^ k))

-- ---- the greatest member

module _ (w most zeros ones : ℕ) (top : most + 1 ≡ 2 ^ w) (cube : IsCube w zeros ones) where
  -- all unknown bits one
  pub greatest_in : InCube w zeros ones (bit_xor most zeros)
  greatest_in = record {
    fits = turned_fits w most zeros top cube.zeros_fit;
    zero = λ i known. elim (cases_lt i w) [
      | inl below ↦ let law = turned_at w most zeros top cube.zeros_fit i below in omega arith
      | inr above ↦ absurd (let none = bit_at_above zeros w i cube.zeros_fit above in omega arith)
    ];
    one = λ i known. elim (cases_lt i w) [
      | inl below ↦
          let law = turned_at w most zeros top cube.zeros_fit i below in let apart = apart_at w zeros ones cube i in
          let small = bit_at-lt zeros i in grind arith
      | inr above ↦ absurd (let none = bit_at_above ones w i cube.ones_fit above in omega arith)
    ];
  }

  -- every member lies between, bit by bit
  pub least_part : (x : ℕ) → InCube w zeros ones x → bit_and x ones ≡ ones
  least_part x member = subset_from x ones member.one

  pub greatest_part : (x : ℕ) → InCube w zeros ones x → bit_and (bit_xor most zeros) x ≡ x
  greatest_part x member = subset_from (bit_xor most zeros) x (λ i on. elim (cases_lt i w) [
    | inl below ↦ elim (digit_cases zeros i) [
      | inl clear ↦ let law = turned_at w most zeros top cube.zeros_fit i below in omega arith
      | inr known ↦ absurd (let off = member.zero i known in omega arith)
    ]
    | inr above ↦ absurd (let none = bit_at_above x w i member.fits above in omega arith)
  ])

-- ---- one digit

-- the digit of a sum where both operands' digits are known and the carries of the least and the greatest agree
known_digit : (d e k l m : ℕ) → k < 2 → l ≤ k → k ≤ m → m < 2 → (d + e + l) % 2 ≡ (d + e + m) % 2 → (d + e + k) % 2 ≡ (d + e + l) % 2
known_digit d e k l m small low high small' same =
    let equal : l ≡ m = grind arith in
    let between : k ≡ l = omega arith in
    ap (λ n. (d + e + n) % 2) between

-- ---- the best masks of a sum

-- the numbers that the code computes, by their bits below w
pub record IsSum (w most : ℕ) (a b : Masks) (c least greatest zeros ones : ℕ) : Type 0 where
  pub least_at : (i : ℕ) → i < w → bit_at least i ≡ bit_at (a.ones + b.ones + c) i
  pub greatest_at : (i : ℕ) → i < w → bit_at greatest i ≡ bit_at (bit_xor most a.zeros + bit_xor most b.zeros + c) i
  pub zeros_fit : zeros < 2 ^ w
  pub ones_fit : ones < 2 ^ w
  pub zeros_at : (i : ℕ) → i < w →
      bit_at zeros i ≡ min (min (max (bit_at a.zeros i) (bit_at a.ones i)) (max (bit_at b.zeros i) (bit_at b.ones i)))
      (min (1 - (bit_at least i + bit_at greatest i) % 2) (1 - bit_at least i))
  pub ones_at : (i : ℕ) → i < w →
      bit_at ones i ≡ min (min (max (bit_at a.zeros i) (bit_at a.ones i)) (max (bit_at b.zeros i) (bit_at b.ones i)))
      (min (1 - (bit_at least i + bit_at greatest i) % 2) (bit_at least i))

-- what is known of a digit d of a member, of the least member and of the greatest
record IsDigitOf (p q d g : ℕ) : Type 0 where
  p_small : p < 2
  q_small : q < 2
  apart : min p q ≡ 0
  zero : p ≡ 1 → d ≡ 0
  one : q ≡ 1 → d ≡ 1
  turned : g ≡ 1 - p

fixed_digit : (p q d g : ℕ) → IsDigitOf p q d g → max p q ≡ 1 → (d ≡ q) × (g ≡ q)
fixed_digit p q d g is known =
    let a = is.p_small in let b = is.q_small in let e = is.apart in let f = is.zero in let h = is.one in let k = is.turned in
    ((grind arith), (grind arith))

both_ones : (m n : ℕ) → m < 2 → n < 2 → min m n ≡ 1 → (m ≡ 1) × (n ≡ 1)
both_ones m n small small' one = ((grind arith), (grind arith))

max_small : (m n : ℕ) → m < 2 → n < 2 → max m n < 2
max_small m n small small' = grind arith

-- the mask bit of a known zero, or of a known one
record IsKnownBit (p q r s l g : ℕ) : Type 0 where
  left : max p q ≡ 1
  right : max r s ≡ 1
  alike : l ≡ g

known_from : (p q r s l g k z : ℕ) → p < 2 → q < 2 → r < 2 → s < 2 → l < 2 → g < 2 → k < 2 →
    z ≡ min (min (max p q) (max r s)) (min (1 - (l + g) % 2) k) → z ≡ 1 → IsKnownBit p q r s l g × (k ≡ 1)
known_from p q r s l g k z hp hq hr hs hl hg hk law on =
    let outer = both_ones (min (max p q) (max r s)) (min (1 - (l + g) % 2) k)
    (let a = max_small p q hp hq in omega arith) (omega arith) (sym law ∙ on) in
    let sides = both_ones (max p q) (max r s) (max_small p q hp hq) (max_small r s hr hs) outer.0 in
    let rest = both_ones (1 - (l + g) % 2) k (omega arith) hk outer.1 in
    (record { left = sides.0; right = sides.1; alike = let same = rest.0 in grind arith }, rest.1)

-- a bit that no mask has, or that the other mask has
unknown_from : (p q r s l g k z : ℕ) → p < 2 → q < 2 → r < 2 → s < 2 → l < 2 → g < 2 → k < 2 →
    z ≡ min (min (max p q) (max r s)) (min (1 - (l + g) % 2) k) → z ≡ 0 →
    (k ≡ 0) ⊎ ((max p q ≡ 0) ⊎ ((max r s ≡ 0) ⊎ (l ≡ 1 - g)))
unknown_from p q r s l g k z hp hq hr hs hl hg hk law off = elim (cases_eq k 0) [
  | inl none ↦ inl none
  | inr some ↦ inr (elim (cases_eq (max p q) 0) [
    | inl free ↦ inl free
    | inr fixed ↦ inr (elim (cases_eq (max r s) 0) [
      | inl free ↦ inl free
      | inr fixed' ↦ inr (let a = max_small p q hp hq in let b = max_small r s hr hs in
          differ (max p q) (max r s) l g k z a b hl hg hk law off some fixed fixed')
    ])
  ])
]
  where
    differ : (m n l g k z : ℕ) → m < 2 → n < 2 → l < 2 → g < 2 → k < 2 → z ≡ min (min m n) (min (1 - (l + g) % 2) k) → z ≡ 0 →
        (k ≡ 0 → ⊥) → (m ≡ 0 → ⊥) → (n ≡ 0 → ⊥) → l ≡ 1 - g
    differ m n l g k z hm hn hl hg hk law off some fixed fixed' =
        let one : m ≡ 1 = grind arith in let two : n ≡ 1 = grind arith in let three : k ≡ 1 = grind arith in
        let odd : 1 - (l + g) % 2 ≡ 0 = grind arith in
        grind arith

left_of_max : (m n : ℕ) → max m n ≡ 0 → m ≡ 0
left_of_max m n none = grind arith

right_of_max : (m n : ℕ) → max m n ≡ 0 → n ≡ 0
right_of_max m n none = grind arith

-- of two sums that differ in one digit alone, one has the digit
turned_sum : (d f e k l digit : ℕ) → digit < 2 → d ≡ 0 → f ≡ 1 → l ≡ k → ((d + e + k) % 2 ≡ digit) ⊎ ((f + e + l) % 2 ≡ digit)
turned_sum d f e k l digit small off on same = elim (cases_eq ((d + e + k) % 2) digit) [
  | inl stays ↦ inl stays
  | inr other ↦ inr (grind arith)
]

turned_right : (e d f k l digit : ℕ) → digit < 2 → d ≡ 0 → f ≡ 1 → l ≡ k → ((e + d + k) % 2 ≡ digit) ⊎ ((e + f + l) % 2 ≡ digit)
turned_right e d f k l digit small off on same = elim (cases_eq ((e + d + k) % 2) digit) [
  | inl stays ↦ inl stays
  | inr other ↦ inr (grind arith)
]

module _ (w most : ℕ) (a b : Masks) (c least greatest zeros ones : ℕ) (top : most + 1 ≡ 2 ^ w)
    (left_cube : IsCube w a.zeros a.ones) (right_cube : IsCube w b.zeros b.ones) (small : c ≤ 1)
    (sum : IsSum w most a b c least greatest zeros ones) where
  -- a digit of the wrapped sum
  sum_digit_at : (x y i : ℕ) → i < w → bit_at ((x + y + c) % 2 ^ w) i ≡ (bit_at x i + bit_at y i + carry_into x y c i) % 2
  sum_digit_at x y i below = bit_at-mod (x + y + c) w i below ∙ digit_law x y c i

  left_digit : (x i : ℕ) → i < w → InCube w a.zeros a.ones x → IsDigitOf (bit_at a.zeros i) (bit_at a.ones i) (bit_at x i) (bit_at (bit_xor most a.zeros) i)
  left_digit x i below member = record {
    p_small = bit_at-lt a.zeros i;
    q_small = bit_at-lt a.ones i;
    apart = apart_at w a.zeros a.ones left_cube i;
    zero = member.zero i;
    one = member.one i;
    turned = turned_at w most a.zeros top left_cube.zeros_fit i below;
  }

  right_digit : (y i : ℕ) → i < w → InCube w b.zeros b.ones y → IsDigitOf (bit_at b.zeros i) (bit_at b.ones i) (bit_at y i) (bit_at (bit_xor most b.zeros) i)
  right_digit y i below member = record {
    p_small = bit_at-lt b.zeros i;
    q_small = bit_at-lt b.ones i;
    apart = apart_at w b.zeros b.ones right_cube i;
    zero = member.zero i;
    one = member.one i;
    turned = turned_at w most b.zeros top right_cube.zeros_fit i below;
  }

  least_digit : (i : ℕ) → i < w → bit_at least i ≡ (bit_at a.ones i + bit_at b.ones i + carry_into a.ones b.ones c i) % 2
  least_digit i below = sum.least_at i below ∙ digit_law a.ones b.ones c i

  greatest_digit : (i : ℕ) → i < w → bit_at greatest i ≡
      (bit_at (bit_xor most a.zeros) i + bit_at (bit_xor most b.zeros) i + carry_into (bit_xor most a.zeros) (bit_xor most b.zeros) c i) % 2
  greatest_digit i below = sum.greatest_at i below ∙ digit_law (bit_xor most a.zeros) (bit_xor most b.zeros) c i

  -- where the bit is known, each sum has the digit of the least one
  sum_known : (x y i : ℕ) → i < w → InCube w a.zeros a.ones x → InCube w b.zeros b.ones y →
      IsKnownBit (bit_at a.zeros i) (bit_at a.ones i) (bit_at b.zeros i) (bit_at b.ones i) (bit_at least i) (bit_at greatest i) →
      bit_at ((x + y + c) % 2 ^ w) i ≡ bit_at least i
  sum_known x y i below x_in y_in known =
      let one = fixed_digit (bit_at a.zeros i) (bit_at a.ones i) (bit_at x i) (bit_at (bit_xor most a.zeros) i) (left_digit x i below x_in) known.left in
      let two = fixed_digit (bit_at b.zeros i) (bit_at b.ones i) (bit_at y i) (bit_at (bit_xor most b.zeros) i) (right_digit y i below y_in) known.right in
      let low = carry_le a.ones b.ones x y c i (least_part w most a.zeros a.ones top left_cube x x_in) (least_part w most b.zeros b.ones top right_cube y y_in) in
      let high = carry_le x y (bit_xor most a.zeros) (bit_xor most b.zeros) c i
      (greatest_part w most a.zeros a.ones top left_cube x x_in) (greatest_part w most b.zeros b.ones top right_cube y y_in) in
      let upper : bit_at greatest i ≡ (bit_at a.ones i + bit_at b.ones i + carry_into (bit_xor most a.zeros) (bit_xor most b.zeros) c i) % 2 =
      greatest_digit i below ∙ same_digits (carry_into (bit_xor most a.zeros) (bit_xor most b.zeros) c i) one.1 two.1 in
      let lower = least_digit i below in
      sum_digit_at x y i below
      ∙ same_digits (carry_into x y c i) one.0 two.0
      ∙ known_digit (bit_at a.ones i) (bit_at b.ones i) (carry_into x y c i) (carry_into a.ones b.ones c i)
      (carry_into (bit_xor most a.zeros) (bit_xor most b.zeros) c i)
      (carry_lt x y c i small) low high (carry_lt (bit_xor most a.zeros) (bit_xor most b.zeros) c i small)
      (sym lower ∙ known.alike ∙ upper)
      ∙ sym lower
    where
      same_digits : (k : ℕ) {d e f h : ℕ} → d ≡ f → e ≡ h → (d + e + k) % 2 ≡ (f + h + k) % 2
      same_digits k {d} {e} {f} {h} one two = ap (λ n. (n + e + k) % 2) one ∙ ap (λ n. (f + n + k) % 2) two

  -- a result with the digit of the least sum, and one with that of the greatest
  least_has : (i : ℕ) → i < w → HasDigit (IsCubeResult w (λ x y. (x + y + c) % 2 ^ w) a b) i (bit_at least i)
  least_has i below = record {
    at = (a.ones + b.ones + c) % 2 ^ w;
    member = record {
      left = a.ones;
      right = b.ones;
      left_in = ones_in w a.zeros a.ones left_cube;
      right_in = ones_in w b.zeros b.ones right_cube;
      is = refl;
    };
    is = bit_at-mod (a.ones + b.ones + c) w i below ∙ sym (sum.least_at i below);
  }

  greatest_has : (i : ℕ) → i < w → HasDigit (IsCubeResult w (λ x y. (x + y + c) % 2 ^ w) a b) i (bit_at greatest i)
  greatest_has i below = record {
    at = (bit_xor most a.zeros + bit_xor most b.zeros + c) % 2 ^ w;
    member = record {
      left = bit_xor most a.zeros;
      right = bit_xor most b.zeros;
      left_in = greatest_in w most a.zeros a.ones top left_cube;
      right_in = greatest_in w most b.zeros b.ones top right_cube;
      is = refl;
    };
    is = bit_at-mod (bit_xor most a.zeros + bit_xor most b.zeros + c) w i below ∙ sym (sum.greatest_at i below);
  }

  -- where the left digit is free, it turns the digit of the sum
  left_turns : (i digit : ℕ) → i < w → digit < 2 → max (bit_at a.zeros i) (bit_at a.ones i) ≡ 0 →
      HasDigit (IsCubeResult w (λ x y. (x + y + c) % 2 ^ w) a b) i digit
  left_turns i digit below small' free =
      let zero_clear : bit_at a.zeros i ≡ 0 = left_of_max (bit_at a.zeros i) (bit_at a.ones i) free in
      let one_clear : bit_at a.ones i ≡ 0 = right_of_max (bit_at a.zeros i) (bit_at a.ones i) free in
      let off = sum_digit_at a.ones b.ones i below in
      let on = sum_digit_at (bit_or a.ones (2 ^ i)) b.ones i below in
      let set = with_bit_at w a.zeros a.ones left_cube i in
      let same = carry_with_bit a.ones b.ones c i in
      elim (turned_sum (bit_at a.ones i) (bit_at (bit_or a.ones (2 ^ i)) i) (bit_at b.ones i) (carry_into a.ones b.ones c i)
      (carry_into (bit_or a.ones (2 ^ i)) b.ones c i) digit small' one_clear set same) [
        | inl stays ↦ record {
          at = (a.ones + b.ones + c) % 2 ^ w;
          member = record {
            left = a.ones;
            right = b.ones;
            left_in = ones_in w a.zeros a.ones left_cube;
            right_in = ones_in w b.zeros b.ones right_cube;
            is = refl;
          };
          is = off ∙ stays;
        }
        | inr turns ↦ record {
          at = (bit_or a.ones (2 ^ i) + b.ones + c) % 2 ^ w;
          member = record {
            left = bit_or a.ones (2 ^ i);
            right = b.ones;
            left_in = with_bit_in w a.zeros a.ones left_cube i below zero_clear;
            right_in = ones_in w b.zeros b.ones right_cube;
            is = refl;
          };
          is = on ∙ turns;
        }
      ]

  right_turns : (i digit : ℕ) → i < w → digit < 2 → max (bit_at b.zeros i) (bit_at b.ones i) ≡ 0 →
      HasDigit (IsCubeResult w (λ x y. (x + y + c) % 2 ^ w) a b) i digit
  right_turns i digit below small' free =
      let zero_clear : bit_at b.zeros i ≡ 0 = left_of_max (bit_at b.zeros i) (bit_at b.ones i) free in
      let one_clear : bit_at b.ones i ≡ 0 = right_of_max (bit_at b.zeros i) (bit_at b.ones i) free in
      let off = sum_digit_at a.ones b.ones i below in
      let on = sum_digit_at a.ones (bit_or b.ones (2 ^ i)) i below in
      let set = with_bit_at w b.zeros b.ones right_cube i in
      let same : carry_into a.ones (bit_or b.ones (2 ^ i)) c i ≡ carry_into a.ones b.ones c i =
      carry_turn a.ones (bit_or b.ones (2 ^ i)) c i ∙ carry_with_bit b.ones a.ones c i ∙ carry_turn b.ones a.ones c i in
      elim (turned_right (bit_at a.ones i) (bit_at b.ones i) (bit_at (bit_or b.ones (2 ^ i)) i) (carry_into a.ones b.ones c i)
      (carry_into a.ones (bit_or b.ones (2 ^ i)) c i) digit small' one_clear set same) [
        | inl stays ↦ record {
          at = (a.ones + b.ones + c) % 2 ^ w;
          member = record {
            left = a.ones;
            right = b.ones;
            left_in = ones_in w a.zeros a.ones left_cube;
            right_in = ones_in w b.zeros b.ones right_cube;
            is = refl;
          };
          is = off ∙ stays;
        }
        | inr turns ↦ record {
          at = (a.ones + bit_or b.ones (2 ^ i) + c) % 2 ^ w;
          member = record {
            left = a.ones;
            right = bit_or b.ones (2 ^ i);
            left_in = ones_in w a.zeros a.ones left_cube;
            right_in = with_bit_in w b.zeros b.ones right_cube i below zero_clear;
            is = refl;
          };
          is = on ∙ turns;
        }
      ]

  -- where the two sums differ, one of them has the digit
  sums_differ : (i digit : ℕ) → i < w → digit < 2 → bit_at least i ≡ 1 - bit_at greatest i →
      HasDigit (IsCubeResult w (λ x y. (x + y + c) % 2 ^ w) a b) i digit
  sums_differ i digit below small' differ = elim (cases_eq (bit_at least i) digit) [
    | inl same ↦ let has = least_has i below in record { at = has.at; member = has.member; is = has.is ∙ same }
    | inr other ↦
        let has = greatest_has i below in
        let one = bit_at-lt least i in let two = bit_at-lt greatest i in
        record { at = has.at; member = has.member; is = has.is ∙ (grind arith) }
  ]

  -- a bit that the mask of this digit leaves out is this digit in some sum
  sum_some : (i digit : ℕ) → i < w → digit < 2 → (k z : ℕ) → k < 2 → (k ≡ 0 → bit_at least i ≡ digit) →
      z ≡ min (min (max (bit_at a.zeros i) (bit_at a.ones i)) (max (bit_at b.zeros i) (bit_at b.ones i)))
      (min (1 - (bit_at least i + bit_at greatest i) % 2) k) → z ≡ 0 →
      HasDigit (IsCubeResult w (λ x y. (x + y + c) % 2 ^ w) a b) i digit
  sum_some i digit below small' k z small_k none law clear =
      elim (unknown_from (bit_at a.zeros i) (bit_at a.ones i) (bit_at b.zeros i) (bit_at b.ones i) (bit_at least i) (bit_at greatest i) k z
      (bit_at-lt a.zeros i) (bit_at-lt a.ones i) (bit_at-lt b.zeros i) (bit_at-lt b.ones i) (bit_at-lt least i) (bit_at-lt greatest i) small_k law clear) [
        | inl off ↦ let has = least_has i below in record { at = has.at; member = has.member; is = has.is ∙ none off }
        | inr rest ↦ elim rest [
          | inl free ↦ left_turns i digit below small' free
          | inr rest' ↦ elim rest' [
            | inl free ↦ right_turns i digit below small' free
            | inr differ ↦ sums_differ i digit below small' differ
          ]
        ]
      ]

  zero_known : (i : ℕ) → bit_at zeros i ≡ 1 → (x : ℕ) → IsCubeResult w (λ x y. (x + y + c) % 2 ^ w) a b x → bit_at x i ≡ 0
  zero_known i on x result = elim (cases_lt i w) [
    | inl below ↦
        let known = known_from (bit_at a.zeros i) (bit_at a.ones i) (bit_at b.zeros i) (bit_at b.ones i) (bit_at least i) (bit_at greatest i)
        (1 - bit_at least i) (bit_at zeros i)
        (bit_at-lt a.zeros i) (bit_at-lt a.ones i) (bit_at-lt b.zeros i) (bit_at-lt b.ones i) (bit_at-lt least i) (bit_at-lt greatest i)
        (omega arith) (sum.zeros_at i below) on in
        let same = sum_known result.left result.right i below result.left_in result.right_in known.0 in
        let off = known.1 in
        ap (λ n. bit_at n i) (sym result.is) ∙ same ∙ (omega arith)
    | inr above ↦ absurd (let none = bit_at_above zeros w i sum.zeros_fit above in omega arith)
  ]

  one_known : (i : ℕ) → bit_at ones i ≡ 1 → (x : ℕ) → IsCubeResult w (λ x y. (x + y + c) % 2 ^ w) a b x → bit_at x i ≡ 1
  one_known i on x result = elim (cases_lt i w) [
    | inl below ↦
        let known = known_from (bit_at a.zeros i) (bit_at a.ones i) (bit_at b.zeros i) (bit_at b.ones i) (bit_at least i) (bit_at greatest i)
        (bit_at least i) (bit_at ones i)
        (bit_at-lt a.zeros i) (bit_at-lt a.ones i) (bit_at-lt b.zeros i) (bit_at-lt b.ones i) (bit_at-lt least i) (bit_at-lt greatest i)
        (bit_at-lt least i) (sum.ones_at i below) on in
        ap (λ n. bit_at n i) (sym result.is) ∙ sum_known result.left result.right i below result.left_in result.right_in known.0 ∙ known.1
    | inr above ↦ absurd (let none = bit_at_above ones w i sum.ones_fit above in omega arith)
  ]

  pub sum_best : IsBest w (IsCubeResult w (λ x y. (x + y + c) % 2 ^ w) a b) zeros ones
  sum_best = record {
    zeros_fit = sum.zeros_fit;
    ones_fit = sum.ones_fit;
    zero = λ x i result on. zero_known i on x result;
    one = λ x i result on. one_known i on x result;
    some_one = λ i below clear.
        let small = bit_at-lt least i in
        let has = sum_some i 1 below (omega arith) (1 - bit_at least i) (bit_at zeros i) (omega arith) (λ off. grind arith) (sum.zeros_at i below) clear in
        (has.at, has.member, has.is);
    some_zero = λ i below clear.
        let has = sum_some i 0 below (omega arith) (bit_at least i) (bit_at ones i) (bit_at-lt least i) (λ off. off) (sum.ones_at i below) clear in
        (has.at, has.member, has.is);
  }

-- ---- what the code computes

min_turn : (a b c : ℕ) → min (min a b) c ≡ min a (min b c)
min_turn a b c = grind arith

wrap_twice : (n c m : ℕ) → (n % m + c) % m ≡ (n + c) % m
wrap_twice n c m =
    let split = div-add-mod' n m in
    let whole : n + c ≡ n / m * m + (n % m + c) = omega arith in
    sym (ap (λ k. k % m) whole ∙ mul-add-mod_self_right (n / m) m (n % m + c))

wrapped_sum_at : (x y c k i : ℕ) → i < k → bit_at (((x + y) % 2 ^ k + c) % 2 ^ k) i ≡ bit_at (x + y + c) i
wrapped_sum_at x y c k i below = ap (λ n. bit_at n i) (wrap_twice (x + y) c (2 ^ k)) ∙ bit_at-mod (x + y + c) k i below

module _ (w most k : ℕ) (a b : Masks) (c : ℕ) (within : w ≤ k) (top : most + 1 ≡ 2 ^ w)
    (left_cube : IsCube w a.zeros a.ones) (right_cube : IsCube w b.zeros b.ones) (least greatest known : ℕ)
    (is_least : least ≡ ((a.ones + b.ones) % 2 ^ k + c) % 2 ^ k)
    (is_greatest : greatest ≡ ((bit_xor most a.zeros + bit_xor most b.zeros) % 2 ^ k + c) % 2 ^ k)
    (is_known : known ≡ bit_and (bit_and (bit_or a.zeros a.ones) (bit_or b.zeros b.ones)) (2 ^ k - 1 - bit_xor least greatest)) where
  known_fits : known < 2 ^ w
  known_fits =
      let one = or_lt w a.zeros a.ones left_cube.zeros_fit left_cube.ones_fit in
      let two = and_le_l (bit_or a.zeros a.ones) (bit_or b.zeros b.ones) in
      let three = and_le_l (bit_and (bit_or a.zeros a.ones) (bit_or b.zeros b.ones)) (2 ^ k - 1 - bit_xor least greatest) in
      omega arith

  least_fits : least < 2 ^ k
  least_fits = subst (λ n. n < 2 ^ k) (sym is_least) (mod_below ((a.ones + b.ones) % 2 ^ k + c) (2 ^ k) (pow_pos k))

  greatest_fits : greatest < 2 ^ k
  greatest_fits = subst (λ n. n < 2 ^ k) (sym is_greatest)
      (mod_below ((bit_xor most a.zeros + bit_xor most b.zeros) % 2 ^ k + c) (2 ^ k) (pow_pos k))

  known_at : (i : ℕ) → i < w → bit_at known i ≡
      min (min (max (bit_at a.zeros i) (bit_at a.ones i)) (max (bit_at b.zeros i) (bit_at b.ones i)))
      (1 - (bit_at least i + bit_at greatest i) % 2)
  known_at i below =
      ap (λ n. bit_at n i) is_known
      ∙ bit_at_and (bit_and (bit_or a.zeros a.ones) (bit_or b.zeros b.ones)) (2 ^ k - 1 - bit_xor least greatest) i
      ∙ ap (λ n. min n (bit_at (2 ^ k - 1 - bit_xor least greatest) i))
      (bit_at_and (bit_or a.zeros a.ones) (bit_or b.zeros b.ones) i
      ∙ ap (λ n. min n (bit_at (bit_or b.zeros b.ones) i)) (bit_at_or a.zeros a.ones i)
      ∙ ap (min (max (bit_at a.zeros i) (bit_at a.ones i))) (bit_at_or b.zeros b.ones i))
      ∙ ap (min (min (max (bit_at a.zeros i) (bit_at a.ones i)) (max (bit_at b.zeros i) (bit_at b.ones i))))
      (complement_at k (bit_xor least greatest) i (xor_lt k least greatest least_fits greatest_fits) (omega arith)
      ∙ ap (λ n. 1 - n) (bit_at_xor least greatest i))

  pub sum_computed : IsSum w most a b c least greatest (bit_and known (2 ^ k - 1 - least)) (bit_and known least)
  sum_computed = record {
    least_at = λ i below. ap (λ n. bit_at n i) is_least ∙ wrapped_sum_at a.ones b.ones c k i (omega arith);
    greatest_at = λ i below. ap (λ n. bit_at n i) is_greatest ∙ wrapped_sum_at (bit_xor most a.zeros) (bit_xor most b.zeros) c k i (omega arith);
    zeros_fit = let less = and_le_l known (2 ^ k - 1 - least) in let fits = known_fits in omega arith;
    ones_fit = let less = and_le_l known least in let fits = known_fits in omega arith;
    zeros_at = λ i below.
        bit_at_and known (2 ^ k - 1 - least) i
        ∙ ap (λ n. min n (bit_at (2 ^ k - 1 - least) i)) (known_at i below)
        ∙ ap (min (min (min (max (bit_at a.zeros i) (bit_at a.ones i)) (max (bit_at b.zeros i) (bit_at b.ones i)))
        (1 - (bit_at least i + bit_at greatest i) % 2))) (complement_at k least i least_fits (omega arith))
        ∙ min_turn (min (max (bit_at a.zeros i) (bit_at a.ones i)) (max (bit_at b.zeros i) (bit_at b.ones i)))
        (1 - (bit_at least i + bit_at greatest i) % 2) (1 - bit_at least i);
    ones_at = λ i below.
        bit_at_and known least i
        ∙ ap (λ n. min n (bit_at least i)) (known_at i below)
        ∙ min_turn (min (max (bit_at a.zeros i) (bit_at a.ones i)) (max (bit_at b.zeros i) (bit_at b.ones i)))
        (1 - (bit_at least i + bit_at greatest i) % 2) (bit_at least i);
  }

  pub sum_masks : c ≤ 1 → IsBest w (IsCubeResult w (λ x y. (x + y + c) % 2 ^ w) a b) (bit_and known (2 ^ k - 1 - least)) (bit_and known least)
  sum_masks small = sum_best w most a b c least greatest (bit_and known (2 ^ k - 1 - least)) (bit_and known least) top left_cube right_cube small sum_computed

-- ---- differences

-- the numbers of a difference, as a sum with the complement and a carry
module _ (w most : ℕ) (a b : Masks) (top : most + 1 ≡ 2 ^ w) (right_cube : IsCube w b.zeros b.ones) where
  pub turned_in : (y : ℕ) → InCube w b.ones b.zeros y → InCube w b.zeros b.ones (bit_xor most y)
  turned_in y member = record {
    fits = turned_fits w most y top member.fits;
    zero = λ i known. elim (cases_lt i w) [
      | inl below ↦ let on = member.one i known in let law = turned_at w most y top member.fits i below in omega arith
      | inr above ↦ bit_at_above (bit_xor most y) w i (turned_fits w most y top member.fits) above
    ];
    one = λ i known. elim (cases_lt i w) [
      | inl below ↦ let off = member.zero i known in let law = turned_at w most y top member.fits i below in omega arith
      | inr above ↦ absurd (let none = bit_at_above b.ones w i right_cube.ones_fit above in omega arith)
    ];
  }

  pub turned_back : (y : ℕ) → InCube w b.zeros b.ones y → InCube w b.ones b.zeros (bit_xor most y)
  turned_back y member = record {
    fits = turned_fits w most y top member.fits;
    zero = λ i known. elim (cases_lt i w) [
      | inl below ↦ let on = member.one i known in let law = turned_at w most y top member.fits i below in omega arith
      | inr above ↦ bit_at_above (bit_xor most y) w i (turned_fits w most y top member.fits) above
    ];
    one = λ i known. elim (cases_lt i w) [
      | inl below ↦ let off = member.zero i known in let law = turned_at w most y top member.fits i below in omega arith
      | inr above ↦ absurd (let none = bit_at_above b.zeros w i right_cube.zeros_fit above in omega arith)
    ];
  }

  pub difference_from : (r : ℕ) → IsCubeResult w (λ x y. (x + y + 1) % 2 ^ w) a (record { zeros = b.ones; ones = b.zeros }) r →
      IsCubeResult w (λ x y. (x + (2 ^ w - y)) % 2 ^ w) a b r
  difference_from r result =
      let sum = turned_sums w most result.right top result.right_in.fits in
      let same : result.left + (2 ^ w - bit_xor most result.right) ≡ result.left + result.right + 1 = omega arith in
      record {
        left = result.left;
        right = bit_xor most result.right;
        left_in = result.left_in;
        right_in = turned_in result.right result.right_in;
        is = ap (λ n. n % 2 ^ w) same ∙ result.is;
      }

  pub difference_to : (r : ℕ) → IsCubeResult w (λ x y. (x + (2 ^ w - y)) % 2 ^ w) a b r →
      IsCubeResult w (λ x y. (x + y + 1) % 2 ^ w) a (record { zeros = b.ones; ones = b.zeros }) r
  difference_to r result =
      let sum = turned_sums w most result.right top result.right_in.fits in
      let same : result.left + bit_xor most result.right + 1 ≡ result.left + (2 ^ w - result.right) = omega arith in
      record {
        left = result.left;
        right = bit_xor most result.right;
        left_in = result.left_in;
        right_in = turned_back result.right result.right_in;
        is = ap (λ n. n % 2 ^ w) same ∙ result.is;
      }

-- the results have the width
pub sum_stays : (w c : ℕ) → StaysIn w (λ x y. (x + y + c) % 2 ^ w)
sum_stays w c = record { fits = λ x y left right. mod_below (x + y + c) (2 ^ w) (pow_pos w) }

pub add_stays : (w : ℕ) → StaysIn w (sum_of w)
add_stays w = record { fits = λ x y left right. mod_below (x + y) (2 ^ w) (pow_pos w) }

pub sub_stays : (w : ℕ) → StaysIn w (difference_of w)
sub_stays w = record { fits = λ x y left right. wrap_below w (pos x -ℤ pos y) }

-- ---- from the sum with a carry to sums and differences

pub sum_without_carry : (w : ℕ) (A B : ℕ → Bool) (zeros ones : ℕ) →
    IsBest w (IsResult w (λ x y. (x + y + 0) % 2 ^ w) A B) zeros ones → IsBest w (IsResult w (λ x y. (x + y) % 2 ^ w) A B) zeros ones
sum_without_carry w A B zeros ones best = IsBest-alike w
    (IsResult w (λ x y. (x + y + 0) % 2 ^ w) A B) (IsResult w (λ x y. (x + y) % 2 ^ w) A B) zeros ones
    (λ r result. record {
      left = result.left;
      right = result.right;
      left_fits = result.left_fits;
      right_fits = result.right_fits;
      left_in = result.left_in;
      right_in = result.right_in;
      is = ap (λ n. n % 2 ^ w) (sym (add-zero (result.left + result.right))) ∙ result.is;
    })
    (λ r result. record {
      left = result.left;
      right = result.right;
      left_fits = result.left_fits;
      right_fits = result.right_fits;
      left_in = result.left_in;
      right_in = result.right_in;
      is = ap (λ n. n % 2 ^ w) (add-zero (result.left + result.right)) ∙ result.is;
    })
    best

-- the difference round the circle of the numbers below 2 ^ w
difference_on_circle : (w x y : ℕ) → y < 2 ^ w → (x + (2 ^ w - y)) % 2 ^ w ≡ difference_of w x y
difference_on_circle w x y fits = sym (wrap_difference_is w x y (omega arith))

pub difference_best : (w : ℕ) (a b turned : Masks) (zeros ones : ℕ) → turned ≡ record { zeros = b.ones; ones = b.zeros } →
    IsCube w a.zeros a.ones → IsCube w b.zeros b.ones →
    IsBest w (IsResult w (λ x y. (x + y + 1) % 2 ^ w) (in_masks w a) (in_masks w turned)) zeros ones →
    IsBest w (IsResult w (difference_of w) (in_masks w a) (in_masks w b)) zeros ones
difference_best w a b turned zeros ones same left_cube right_cube best =
    let swap : Masks = record { zeros = b.ones; ones = b.zeros } in
    let swapped : IsCube w b.ones b.zeros = record {
      zeros_fit = right_cube.ones_fit;
      ones_fit = right_cube.zeros_fit;
      apart = and_comm b.ones b.zeros ∙ right_cube.apart;
    } in
    let top : 2 ^ w - 1 + 1 ≡ 2 ^ w = let positive = pow_pos w in omega arith in
    let moved : IsBest w (IsResult w (λ x y. (x + y + 1) % 2 ^ w) (in_masks w a) (in_masks w (record { zeros = b.ones; ones = b.zeros }))) zeros ones =
    subst (λ m. IsBest w (IsResult w (λ x y. (x + y + 1) % 2 ^ w) (in_masks w a) (in_masks w m)) zeros ones) same best in
    IsBest-alike w
    (IsResult w (λ x y. (x + y + 1) % 2 ^ w) (in_masks w a) (in_masks w (record { zeros = b.ones; ones = b.zeros })))
    (IsResult w (difference_of w) (in_masks w a) (in_masks w b)) zeros ones
    (λ r result. IsResult-alike w (λ x y. (x + (2 ^ w - y)) % 2 ^ w) (difference_of w) (in_masks w a) (in_masks w b)
    (λ x y left right. difference_on_circle w x y right) r
    (cube_result w (λ x y. (x + (2 ^ w - y)) % 2 ^ w) a b left_cube right_cube r
    (difference_from w (2 ^ w - 1) a b top right_cube r
    (result_cube w (λ x y. (x + y + 1) % 2 ^ w) a (record { zeros = b.ones; ones = b.zeros }) left_cube swapped r result))))
    (λ r result. cube_result w (λ x y. (x + y + 1) % 2 ^ w) a (record { zeros = b.ones; ones = b.zeros }) left_cube swapped r
    (difference_to w (2 ^ w - 1) a b top right_cube r
    (result_cube w (λ x y. (x + (2 ^ w - y)) % 2 ^ w) a b left_cube right_cube r
    (IsResult-alike w (difference_of w) (λ x y. (x + (2 ^ w - y)) % 2 ^ w) (in_masks w a) (in_masks w b)
    (λ x y left right. sym (difference_on_circle w x y right)) r result))))
    moved
