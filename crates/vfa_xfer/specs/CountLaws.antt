-- Counts of bits, by what is known of a number.
use Rattle.std.proofs.Common.{◌≡◌, ℕ, zero, suc, ◌+◌, ◌-◌, ◌%◌, ◌^◌, ◌<◌, ◌≤◌, min, Bool, true, false, if◌then◌else◌, nat_eq, nat_lt, refl, sym, ◌∙◌, ap, arith, inl, inr, add-one, mod-eq_of_lt}
use Rattle.std.specs.Int.{bit_at}
use Rattle.std.proofs.lemmas.Bool.{true≢false, eq-eqb, eqb-true, ne_eqb, lt-ltb, ltb-true}
use Rattle.std.proofs.lemmas.Bool.Decides.{nat_tests}
use Rattle.std.proofs.lemmas.Nat.Bits.{bit_at-zero}
use Rattle.vfa_dom.proofs.Bests.{digit_cases}
use Rattle.vfa_known.specs.Cube.{InCube}
use Rattle.vfa_known.proofs.Places.{bit_at_mod}
use Rattle.vfa_known.proofs.Products.{low_zeros}
use Rattle.vfa_word.specs.Operations.{count_below, one_bits, leading_zero_bits, trailing_zero_bits}

pub count_fits : (n : ℕ) (p : ℕ → Bool) → count_below n p ≤ n
unfolding count_below
count_fits zero p = omega arith
count_fits (suc n) p = let rest = count_fits n p in grind arith

pub ones_fit : (w x : ℕ) → one_bits w x ≤ w
unfolding one_bits
ones_fit w x = count_fits w _

-- a test that holds wherever another does counts no less
pub count_more : (n : ℕ) (p q : ℕ → Bool) → ((i : ℕ) → i < n → p i ≡ true → q i ≡ true) → count_below n p ≤ count_below n q
unfolding count_below
count_more zero p q h = omega arith
count_more (suc n) p q h =
    let rest = count_more n p q (λ i below. h i (omega arith)) in
    let here = h n (omega arith) in
    by_tests (p n) (q n) here rest
  where
    by_tests : (a b : Bool) → (a ≡ true → b ≡ true) → count_below n p ≤ count_below n q → (if a then 1 else 0) + count_below n p ≤ (if b then 1 else 0) + count_below n q
    by_tests true true e r = omega arith
    by_tests true false e r = absurd (true≢false (sym (e refl)))
    by_tests false true e r = omega arith
    by_tests false false e r = omega arith

-- two tests that are never both passed count at most all
pub count_apart : (n : ℕ) (p q : ℕ → Bool) → ((i : ℕ) → i < n → p i ≡ true → q i ≡ true → ⊥) → count_below n p + count_below n q ≤ n
unfolding count_below
count_apart zero p q h = omega arith
count_apart (suc n) p q h =
    let rest = count_apart n p q (λ i below. h i (omega arith)) in
    by_tests (p n) (q n) (h n (omega arith)) rest
  where
    by_tests : (a b : Bool) → (a ≡ true → b ≡ true → ⊥) → count_below n p + count_below n q ≤ n → (if a then 1 else 0) + count_below n p + ((if b then 1 else 0) + count_below n q) ≤ suc n
    by_tests true true e r = absurd (e refl refl)
    by_tests true false e r = omega arith
    by_tests false true e r = omega arith
    by_tests false false e r = omega arith

-- the places below m
pub count_until : (m n : ℕ) → count_below n (λ i. nat_lt i m) ≡ min m n
unfolding count_below
count_until m zero = omega arith
count_until m (suc n) =
    let e : count_below n (λ i. nat_lt i m) ≡ min m n = count_until m n in
    grind (arith, nat_tests)

-- a greater number has no more zeros above its highest one
pub leading_falls : (w x y : ℕ) → x ≤ y → leading_zero_bits w y ≤ leading_zero_bits w x
unfolding leading_zero_bits
leading_falls w x y less = count_more w (λ i. nat_lt y (2 ^ i)) (λ i. nat_lt x (2 ^ i)) (λ i below e. lt-ltb x (2 ^ i) (let f = ltb-true y (2 ^ i) e in omega arith))

pub leading_fit : (w x : ℕ) → leading_zero_bits w x ≤ w
unfolding leading_zero_bits
leading_fit w x = count_fits w _

pub trailing_fit : (w x : ℕ) → trailing_zero_bits w x ≤ w
unfolding trailing_zero_bits
trailing_fit w x = count_fits w _

-- a number other than 0 has a one
skips : (t : Bool) (k n : ℕ) → t ≡ false → n ≤ k → (if t then 1 else 0) + n ≤ k
skips true k n e l = absurd (true≢false e)
skips false k n e l = omega arith

whole_power : (x k : ℕ) → x < 2 ^ suc k → (x ≡ 0 → ⊥) → nat_eq (x % 2 ^ (k + 1)) 0 ≡ false
whole_power x k fits other =
    let same : x % 2 ^ (k + 1) ≡ x = ap (λ m. x % 2 ^ m) (add-one k) ∙ mod-eq_of_lt fits in
    ne_eqb (x % 2 ^ (k + 1)) 0 (λ e. other (sym same ∙ e))

pub trailing_some : (w x : ℕ) → 1 ≤ w → x < 2 ^ w → (x ≡ 0 → ⊥) → trailing_zero_bits w x ≤ w - 1
unfolding trailing_zero_bits count_below
trailing_some zero x one fits other = absurd (omega arith)
trailing_some (suc k) x one fits other =
    let rest = count_fits k (λ i. nat_eq (x % 2 ^ (i + 1)) 0) in
    let here = skips (nat_eq (x % 2 ^ (k + 1)) 0) k (count_below k (λ i. nat_eq (x % 2 ^ (i + 1)) 0)) (whole_power x k fits other) rest in
    omega (arith, here)

-- low bits that are zero
pub zeros_within : (x k i : ℕ) → x % 2 ^ k ≡ 0 → i < k → bit_at x i ≡ 0
zeros_within x k i e below = sym (bit_at_mod x k i below) ∙ ap (λ n. bit_at n i) e ∙ bit_at-zero i

-- what is known of the bits tells of the counts
module _ (w zeros ones x : ℕ) (member : InCube w zeros ones x) where
  pub ones_least : one_bits w ones ≤ one_bits w x
  unfolding one_bits
  ones_least = count_more w (λ i. nat_eq (bit_at ones i) 1) (λ i. nat_eq (bit_at x i) 1)
      (λ i below e. eq-eqb (bit_at x i) 1 (member.one i (eqb-true (bit_at ones i) 1 e)))

  pub ones_most : one_bits w zeros + one_bits w x ≤ w
  unfolding one_bits
  ones_most = count_apart w (λ i. nat_eq (bit_at zeros i) 1) (λ i. nat_eq (bit_at x i) 1)
      (λ i below e f.
      let off : bit_at x i ≡ 0 = member.zero i (eqb-true (bit_at zeros i) 1 e) in
      let on : bit_at x i ≡ 1 = eqb-true (bit_at x i) 1 f in omega arith)

  off_where : (k i : ℕ) → x % 2 ^ k ≡ 0 → i < k → bit_at ones i ≡ 0
  off_where k i e below = elim (digit_cases ones i) [
    | inl off ↦ off
    | inr on ↦ absurd (let none = zeros_within x k i e below in let one = member.one i on in omega arith)
  ]

  pub trailing_most : trailing_zero_bits w x ≤ trailing_zero_bits w ones
  unfolding trailing_zero_bits
  trailing_most = count_more w (λ i. nat_eq (x % 2 ^ (i + 1)) 0) (λ i. nat_eq (ones % 2 ^ (i + 1)) 0)
      (λ i below e. eq-eqb (ones % 2 ^ (i + 1)) 0 (low_zeros ones (i + 1) (λ j less. off_where (i + 1) j (eqb-true (x % 2 ^ (i + 1)) 0 e) less)))

-- the low bits that are zero
pub trailing_least : (w x run : ℕ) → run ≤ w → ((i : ℕ) → i < run → bit_at x i ≡ 0) → run ≤ trailing_zero_bits w x
unfolding trailing_zero_bits
trailing_least w x run fits off =
    let all = count_until run w in
    let more = count_more w (λ i. nat_lt i run) (λ i. nat_eq (x % 2 ^ (i + 1)) 0)
    (λ i below e. let less = ltb-true i run e in eq-eqb (x % 2 ^ (i + 1)) 0 (low_zeros x (i + 1) (λ j under. off j (omega arith)))) in
    omega (arith, all, more)
