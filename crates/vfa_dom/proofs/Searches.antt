-- What the bounded searches find, and the converse.
use Rattle.std.proofs.Common.{◌≡◌, ℕ, zero, suc, ◌+◌, ◌-◌, ◌*◌, ◌^◌, ◌<◌, Bool, true, false, cond, not, ◌||◌, refl, sym, ◌∙◌, ap, subst, arith, inl, inr, pow-suc}
use Rattle.std.specs.Int.{bit_at}
use Rattle.std.proofs.lemmas.Bool.{cases_Bool, or_left, or_right, or_parts, or_cases, and_parts, and_from, cond-true, cond-false, cases_eq, cases_order}
use Rattle.std.proofs.lemmas.Nat.Bits.{bit_at_cat_low, bit_at_cat_high, same_from_bits_below, bit_at_lowest}
use Rattle.vfa_dom.specs.Search.{some_below, all_below, least_below, greatest_below, flag, bits_below}

-- ---- some

pub some_found : (n : ℕ) (p : ℕ → Bool) (x : ℕ) → x < n → p x ≡ true → some_below n p ≡ true
unfolding some_below
some_found zero p x below passes = absurd (omega arith)
some_found (suc n) p x below passes = elim (cases_eq x n) [
  | inl same ↦ or_left (p n) (some_below n p) (ap p (sym same) ∙ passes)
  | inr other ↦ or_right (p n) (some_below n p) (some_found n p x (grind arith) passes)
]

-- the number that a search finds
pub record Found (n : ℕ) (p : ℕ → Bool) : Type 0 where
  pub at : ℕ
  pub below : at < n
  pub passes : p at ≡ true

pub found_some : (n : ℕ) (p : ℕ → Bool) → some_below n p ≡ true → Found n p
unfolding some_below
found_some zero p some = cc
found_some (suc n) p some = elim (or_cases (p n) (some_below n p) some) [
  | inl here ↦ record { at = n; below = omega arith; passes = here }
  | inr rest ↦ let found = found_some n p rest in
      record { at = found.at; below = omega arith; passes = found.passes }
]

pub none_passes : (n : ℕ) (p : ℕ → Bool) → some_below n p ≡ false → (x : ℕ) → x < n → p x ≡ false
none_passes n p none x below = elim (cases_Bool (p x)) [
  | inl passes ↦ let found = some_found n p x below passes in cc
  | inr fails ↦ fails
]

pub none_found : (n : ℕ) (p : ℕ → Bool) → ((x : ℕ) → x < n → p x ≡ false) → some_below n p ≡ false
none_found n p fails = elim (cases_Bool (some_below n p)) [
  | inl some ↦ let found = found_some n p some in let failed = fails found.at found.below in let passed = found.passes in cc
  | inr none ↦ none
]

-- two tests that agree below n are searched alike
pub some_alike : (n : ℕ) (p q : ℕ → Bool) → ((x : ℕ) → x < n → p x ≡ q x) → some_below n p ≡ some_below n q
unfolding some_below
some_alike zero p q alike = refl
some_alike (suc n) p q alike =
    let here = alike n (omega arith) in
    let rest = some_alike n p q (λ x below. alike x (omega arith)) in
    cc

-- ---- all

pub all_pass : (n : ℕ) (p : ℕ → Bool) → all_below n p ≡ true → (x : ℕ) → x < n → p x ≡ true
unfolding all_below
all_pass zero p all x below = absurd (omega arith)
all_pass (suc n) p all x below =
    let parts = and_parts (p n) (all_below n p) all in
    elim (cases_eq x n) [
      | inl same ↦ ap p same ∙ parts.0
      | inr other ↦ all_pass n p parts.1 x (grind arith)
    ]

pub all_from : (n : ℕ) (p : ℕ → Bool) → ((x : ℕ) → x < n → p x ≡ true) → all_below n p ≡ true
unfolding all_below
all_from zero p each = refl
all_from (suc n) p each =
    and_from (p n) (all_below n p) (each n (omega arith)) (all_from n p (λ x below. each x (omega arith)))

pub all_fails : (n : ℕ) (p : ℕ → Bool) (x : ℕ) → x < n → p x ≡ false → all_below n p ≡ false
all_fails n p x below fails = elim (cases_Bool (all_below n p)) [
  | inl all ↦ let passed = all_pass n p all x below in cc
  | inr some ↦ some
]

pub found_failing : (n : ℕ) (p : ℕ → Bool) → all_below n p ≡ false → Found n (λ x. not (p x))
unfolding all_below
found_failing zero p all = cc
found_failing (suc n) p all = elim (cases_Bool (p n)) [
  | inl passes ↦
      let rest : all_below n p ≡ false = cc in
      let found = found_failing n p rest in
      record { at = found.at; below = omega arith; passes = found.passes }
  | inr fails ↦ record { at = n; below = omega arith; passes = ap not fails }
]

pub all_alike : (n : ℕ) (p q : ℕ → Bool) → ((x : ℕ) → x < n → p x ≡ q x) → all_below n p ≡ all_below n q
unfolding all_below
all_alike zero p q alike = refl
all_alike (suc n) p q alike =
    let here = alike n (omega arith) in
    let rest = all_alike n p q (λ x below. alike x (omega arith)) in
    cc

or_else : (a b : Bool) → (a || b) ≡ true → b ≡ false → a ≡ true
or_else a b some none = elim (or_cases a b some) [ inl here ↦ here | inr rest ↦ cc ]

else_or : (a b : Bool) → (a || b) ≡ true → a ≡ false → b ≡ true
else_or a b some none = elim (or_cases a b some) [ inl here ↦ cc | inr rest ↦ rest ]

-- ---- least

pub record IsLeast (n : ℕ) (p : ℕ → Bool) (x : ℕ) : Type 0 where
  pub below : x < n
  pub passes : p x ≡ true
  pub first : (k : ℕ) → k < x → p k ≡ false

pub least_found : (n : ℕ) (p : ℕ → Bool) → some_below n p ≡ true → IsLeast n p (least_below n p)
unfolding some_below least_below
least_found zero p some = cc
least_found (suc n) p some = elim (cases_Bool (some_below n p)) [
  | inl rest ↦
      let least = least_found n p rest in
      let same : cond (some_below n p) (least_below n p) (cond (p n) n 0) ≡ least_below n p
      = cond-true (some_below n p) (least_below n p) (cond (p n) n 0) rest in
      subst (λ x. IsLeast (suc n) p x) (sym same)
      (record { below = let within = least.below in omega arith; passes = least.passes; first = least.first })
  | inr none ↦
      let here : p n ≡ true = or_else (p n) (some_below n p) some none in
      let same : cond (some_below n p) (least_below n p) (cond (p n) n 0) ≡ n
      = cond-false (some_below n p) (least_below n p) (cond (p n) n 0) none ∙ cond-true (p n) n 0 here in
      subst (λ x. IsLeast (suc n) p x) (sym same)
      (record { below = omega arith; passes = here; first = none_passes n p none })
]

pub least_none : (n : ℕ) (p : ℕ → Bool) → some_below n p ≡ false → least_below n p ≡ 0
unfolding some_below least_below
least_none zero p none = refl
least_none (suc n) p none =
    let parts = or_parts (p n) (some_below n p) none in
    cond-false (some_below n p) (least_below n p) (cond (p n) n 0) parts.1 ∙ cond-false (p n) n 0 parts.0

pub same_least : (n : ℕ) (p : ℕ → Bool) (x y : ℕ) → IsLeast n p x → IsLeast n p y → x ≡ y
same_least n p x y one two = elim (cases_order x y) [
  | inl same ↦ same
  | inr apart ↦ elim apart [
    | inl less ↦ let fails = two.first x less in let passes = one.passes in cc
    | inr more ↦ let fails = one.first y more in let passes = two.passes in cc
  ]
]

pub least_is : (n : ℕ) (p : ℕ → Bool) (x : ℕ) → IsLeast n p x → least_below n p ≡ x
least_is n p x least =
    same_least n p (least_below n p) x (least_found n p (some_found n p x least.below least.passes)) least

-- ---- greatest

pub record IsGreatest (n : ℕ) (p : ℕ → Bool) (x : ℕ) : Type 0 where
  pub below : x < n
  pub passes : p x ≡ true
  pub last : (k : ℕ) → x < k → k < n → p k ≡ false

pub greatest_found : (n : ℕ) (p : ℕ → Bool) → some_below n p ≡ true → IsGreatest n p (greatest_below n p)
unfolding some_below greatest_below
greatest_found zero p some = cc
greatest_found (suc n) p some = elim (cases_Bool (p n)) [
  | inl here ↦
      let same : cond (p n) n (greatest_below n p) ≡ n = cond-true (p n) n (greatest_below n p) here in
      subst (λ x. IsGreatest (suc n) p x) (sym same)
      (record { below = omega arith; passes = here; last = λ k above below. absurd (omega arith) })
  | inr fails ↦
      let rest : some_below n p ≡ true = else_or (p n) (some_below n p) some fails in
      let greatest = greatest_found n p rest in
      let same : cond (p n) n (greatest_below n p) ≡ greatest_below n p
      = cond-false (p n) n (greatest_below n p) fails in
      subst (λ x. IsGreatest (suc n) p x) (sym same)
      (record {
        below = let within = greatest.below in omega arith;
        passes = greatest.passes;
        last = λ k above below. elim (cases_eq k n) [
          | inl same ↦ ap p same ∙ fails
          | inr other ↦ greatest.last k above (grind arith)
        ];
      })
]

pub greatest_none : (n : ℕ) (p : ℕ → Bool) → some_below n p ≡ false → greatest_below n p ≡ 0
unfolding some_below greatest_below
greatest_none zero p none = refl
greatest_none (suc n) p none =
    let parts = or_parts (p n) (some_below n p) none in
    cond-false (p n) n (greatest_below n p) parts.0 ∙ greatest_none n p parts.1

pub same_greatest : (n : ℕ) (p : ℕ → Bool) (x y : ℕ) → IsGreatest n p x → IsGreatest n p y → x ≡ y
same_greatest n p x y one two = elim (cases_order x y) [
  | inl same ↦ same
  | inr apart ↦ elim apart [
    | inl less ↦ let fails = one.last y less two.below in let passes = two.passes in cc
    | inr more ↦ let fails = two.last x more one.below in let passes = one.passes in cc
  ]
]

pub greatest_is : (n : ℕ) (p : ℕ → Bool) (x : ℕ) → IsGreatest n p x → greatest_below n p ≡ x
greatest_is n p x greatest =
    same_greatest n p (greatest_below n p) x (greatest_found n p (some_found n p x greatest.below greatest.passes)) greatest

-- ---- bits

pub flag_lt : (b : Bool) → flag b < 2
unfolding flag
flag_lt true = omega arith
flag_lt false = omega arith

pub flag-true : (b : Bool) → b ≡ true → flag b ≡ 1
unfolding flag
flag-true true e = refl
flag-true false e = cc

pub flag-false : (b : Bool) → b ≡ false → flag b ≡ 0
unfolding flag
flag-false true e = cc
flag-false false e = refl

pub true_from_flag : (b : Bool) → flag b ≡ 1 → b ≡ true
unfolding flag
true_from_flag true e = refl
true_from_flag false e = absurd (omega arith)

pub false_from_flag : (b : Bool) → flag b ≡ 0 → b ≡ false
unfolding flag
false_from_flag true e = absurd (omega arith)
false_from_flag false e = refl

one_more_bit : (a m r : ℕ) → a < 2 → r < m → a * m + r < m * 2
one_more_bit a m r small fits = elim (cases_eq a 0) [
  | inl none ↦ rw none (omega arith)
  | inr other ↦ let one : a ≡ 1 = grind arith in rw one (omega arith)
]

pub bits_below-lt : (n : ℕ) (p : ℕ → Bool) → bits_below n p < 2 ^ n
unfolding bits_below
bits_below-lt zero p = omega arith
bits_below-lt (suc n) p = rw (pow-suc) (one_more_bit (flag (p n)) (2 ^ n) (bits_below n p) (flag_lt (p n)) (bits_below-lt n p))

pub bit_at-bits_below : (n : ℕ) (p : ℕ → Bool) (i : ℕ) → i < n → bit_at (bits_below n p) i ≡ flag (p i)
unfolding bits_below
bit_at-bits_below zero p i below = absurd (omega arith)
bit_at-bits_below (suc n) p i below = elim (cases_eq i n) [
  | inl same ↦
      subst (λ k. bit_at (flag (p n) * 2 ^ n + bits_below n p) k ≡ flag (p k)) (sym same)
      (bit_at_cat_high (flag (p n)) n (bits_below n p) n (bits_below-lt n p) (omega arith) ∙ bit_at_flag n (p n))
  | inr other ↦
      bit_at_cat_low (flag (p n)) n (bits_below n p) i (grind arith) ∙ bit_at-bits_below n p i (grind arith)
]
  where
    bit_at_flag : (n : ℕ) (b : Bool) → bit_at (flag b) (n - n) ≡ flag b
    bit_at_flag n b = let none : n - n ≡ 0 = omega arith in let small = flag_lt b in rw (none, bit_at_lowest) (omega arith)

-- a number of n bits that has the tested bits is the number that the test makes
pub bits_are : (n : ℕ) (p : ℕ → Bool) (m : ℕ) → m < 2 ^ n → ((i : ℕ) → i < n → bit_at m i ≡ flag (p i)) → m ≡ bits_below n p
bits_are n p m fits each = same_from_bits_below n m (bits_below n p) fits (bits_below-lt n p)
    (λ i below. each i below ∙ sym (bit_at-bits_below n p i below))

pub bits_alike : (n : ℕ) (p q : ℕ → Bool) → ((i : ℕ) → i < n → p i ≡ q i) → bits_below n p ≡ bits_below n q
bits_alike n p q alike = bits_are n q (bits_below n p) (bits_below-lt n p)
    (λ i below. bit_at-bits_below n p i below ∙ ap flag (alike i below))
