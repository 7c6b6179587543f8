-- Counts of bits by places, and the counts that the machine makes.
use Rattle.std.proofs.Common.{◌≡◌, ℕ, zero, suc, ◌+◌, ◌-◌, ◌*◌, ◌/◌, ◌%◌, ◌^◌, ◌<◌, ◌≤◌, min, Bool, false, if◌then◌else◌, nat_eq, nat_lt, refl, sym, ◌∙◌, ap, arith, pow_mono, pow-suc, ◌⊎◌, inl, inr, add-one}
use Rattle.std.proofs.lemmas.Bool.Decides.{nat_tests}
use Rattle.std.proofs.lemmas.Bool.{cases_lt}
use Rattle.std.proofs.lemmas.Nat.{leading_length, pow_pos, mod_below, div-add-mod', ones_cat}
use Rattle.std.proofs.lemmas.Nat.Bits.{bit_at_cat_low}
use Rattle.std.proofs.Math.Nat.{div-lt_iff_lt-mul}
use lib.Arith.{mod-mul}
use lib.Count.{ones-le, ones_in}
use Rattle.std.specs.Int.Count.{count_leading_zeros, count_trailing_zeros, ones, under}
use Rattle.std.specs.Int.{bit_at}
use Rattle.vfa_word.specs.Operations.{count_below, one_bits, leading_zero_bits, trailing_zero_bits}

-- counts of tests that agree
count_alike : (n : ℕ) (p q : ℕ → Bool) → ((i : ℕ) → i < n → p i ≡ q i) → count_below n p ≡ count_below n q
unfolding count_below
count_alike zero p q h = refl
count_alike (suc n) p q h =
    let e : p n ≡ q n = h n (omega arith) in
    let f : count_below n p ≡ count_below n q = count_alike n p q (λ i l. h i (omega arith)) in
    cc

-- as many places below n as are not below m
count_from : (m n : ℕ) → count_below n (λ i. nat_lt m (suc i)) ≡ n - m
unfolding count_below
count_from m zero = omega arith
count_from m (suc n) =
    let e : count_below n (λ i. nat_lt m (suc i)) ≡ n - m = count_from m n in
    grind (arith, nat_tests)

count_until : (m n : ℕ) → count_below n (λ i. nat_lt i m) ≡ min m n
unfolding count_below
count_until m zero = omega arith
count_until m (suc n) =
    let e : count_below n (λ i. nat_lt i m) ≡ min m n = count_until m n in
    grind (arith, nat_tests)

-- a number of length m is below a power of 2 from 2^m on
length_test : (x m i : ℕ) → x < 2 ^ m → 2 ^ m ≤ 2 * x + 1 → nat_lt x (2 ^ i) ≡ nat_lt m (suc i)
length_test x m i h l =
    let f : (i < m) ⊎ (m ≤ i) → nat_lt x (2 ^ i) ≡ nat_lt m (suc i) = λ s. elim s [
      | inl k ↦ let p : 2 ^ suc i ≤ 2 ^ m = pow_mono k in let q : 2 ^ suc i ≡ 2 ^ i * 2 = pow-suc 2 i in grind (arith, nat_tests)
      | inr k ↦ let p : 2 ^ m ≤ 2 ^ i = pow_mono k in grind (arith, nat_tests)
    ] in
    f (cases_lt i m)

-- the length of a number of w bits is at most w
length_fits : (x m w : ℕ) → x < 2 ^ w → 2 ^ m ≤ 2 * x + 1 → m ≤ w
length_fits x m w h l =
    let f : (w < m) ⊎ (m ≤ w) → m ≤ w = λ s. elim s [
      | inl k ↦ let p : 2 ^ suc w ≤ 2 ^ m = pow_mono k in let q : 2 ^ suc w ≡ 2 ^ w * 2 = pow-suc 2 w in absurd (omega arith)
      | inr k ↦ k
    ] in
    f (cases_lt w m)

pub record IsLeading (w x n : ℕ) : Type 0 where
  pub room : 128 - w ≤ n
  pub count : n - (128 - w) ≡ leading_zero_bits w x

pub leading_is : (w x : ℕ) → w ≤ 128 → x < 2 ^ w → IsLeading w x (count_leading_zeros 128 x)
unfolding leading_zero_bits
leading_is w x h l =
    let b : 2 ^ w ≤ 2 ^ 128 = pow_mono h in
    let t = leading_length 128 x (omega arith) in
    let m = t.0 in
    let k : m ≤ w = length_fits x m w l t.3 in
    let c : leading_zero_bits w x ≡ w - m =
    count_alike w (λ i. nat_lt x (2 ^ i)) (λ i. nat_lt m (suc i)) (λ i q. length_test x m i t.2 t.3) ∙ count_from m w in
    let e : count_leading_zeros 128 x + m ≡ 128 = t.1 in
    record { room = omega arith; count = omega arith }

-- the lowest i + 2 bits are the lowest bit and the lowest i + 1 bits of the half
low_bits : (x i : ℕ) → x % 2 ^ suc (suc i) ≡ x / 2 % 2 ^ suc i * 2 + x % 2
low_bits x i = ap (λ m. x % m) (pow-suc 2 (suc i)) ∙ mod-mul x {m = 2 ^ suc i} {c = 2} (pow_pos (suc i)) (omega arith)

-- the lowest bit is a one
odd_test : (x i : ℕ) → x % 2 ≡ 1 → nat_eq (x % 2 ^ suc i) 0 ≡ false
odd_test x zero e = grind (arith, nat_tests)
odd_test x (suc i) e = let f = low_bits x i in grind (arith, nat_tests)

even_test : (x i : ℕ) (b : Bool) → x % 2 ≡ 0 → nat_eq (x / 2 % 2 ^ suc i) 0 ≡ b → nat_eq (x % 2 ^ suc (suc i)) 0 ≡ b
even_test x i b e h =
    let f = low_bits x i in
    let g : nat_eq (x % 2 ^ suc (suc i)) 0 ≡ nat_eq (x / 2 % 2 ^ suc i) 0 = grind (arith, nat_tests) in
    g ∙ h

trailing_by : (k x i t d : ℕ) → x % 2 ≡ d → ((j : ℕ) → j < k → nat_eq (x / 2 % 2 ^ suc j) 0 ≡ nat_lt j t) → i < suc k
    → nat_eq (x % 2 ^ suc i) 0 ≡ nat_lt i (under d t)
trailing_by k x zero t zero e half h = grind (arith, nat_tests)
trailing_by k x (suc i) t zero e half h =
    even_test x i (nat_lt i t) e (half i (omega arith)) ∙ (let f : nat_lt i t ≡ nat_lt (suc i) (suc t) = grind (arith, nat_tests) in f)
trailing_by k x i t (suc d) e half h =
    let odd : x % 2 ≡ 1 = omega (arith, mod_below x 2 (omega arith)) in
    odd_test x i odd ∙ (let f : false ≡ nat_lt i 0 = grind (arith, nat_tests) in f)

trailing_test : (k x i : ℕ) → i < k → nat_eq (x % 2 ^ suc i) 0 ≡ nat_lt i (count_trailing_zeros k x)
unfolding count_trailing_zeros
trailing_test zero x i h = absurd (omega arith)
trailing_test (suc k) x i h =
    trailing_by k x i (count_trailing_zeros k (x / 2)) (x % 2) refl (λ j l. trailing_test k (x / 2) j l) h

pub trailing_is : (w x : ℕ) → w ≤ 128 → min (count_trailing_zeros 128 x) w ≡ trailing_zero_bits w x
unfolding trailing_zero_bits
trailing_is w x h =
    let t = count_trailing_zeros 128 x in
    sym (count_alike w (λ i. nat_eq (x % 2 ^ (i + 1)) 0) (λ i. nat_lt i t)
    (λ i l. ap (λ k. nat_eq (x % 2 ^ k) 0) (add-one i) ∙ trailing_test 128 x i (omega arith))
    ∙ count_until t w)

-- one bit is as many ones as it says
ones_of_bit : (a : ℕ) → a < 2 → (if nat_eq (a % 2) 1 then 1 else 0) ≡ ones a
unfolding ones ones_in
ones_of_bit zero h = refl
ones_of_bit (suc zero) h = refl
ones_of_bit (suc (suc a)) h = absurd (omega arith)

ones_are : (w x : ℕ) → x < 2 ^ w → count_below w (λ i. nat_eq (bit_at x i) 1) ≡ ones x
unfolding count_below
ones_are zero x h = omega (arith, ones-le 0 x h)
ones_are (suc w) x h =
    let a = x / 2 ^ w in
    let r = x % 2 ^ w in
    let split : a * 2 ^ w + r ≡ x = div-add-mod' x (2 ^ w) in
    let low : r < 2 ^ w = mod_below x (2 ^ w) (pow_pos w) in
    let top : a < 2 = (div-lt_iff_lt-mul {k = 2 ^ w} {x = x} {y = 2} (pow_pos w)).1 (omega (arith, pow-suc 2 w)) in
    let same : count_below w (λ i. nat_eq (bit_at x i) 1) ≡ count_below w (λ i. nat_eq (bit_at r i) 1) =
    count_alike w _ _ (λ i l. ap (λ n. nat_eq n 1) (ap (λ n. bit_at n i) (sym split) ∙ bit_at_cat_low a w r i l)) in
    let rest : count_below w (λ i. nat_eq (bit_at r i) 1) ≡ ones r = ones_are w r low in
    let bit : (if nat_eq (a % 2) 1 then 1 else 0) ≡ ones a = ones_of_bit a top in
    let whole : ones x ≡ ones a + ones r = ap ones (sym split) ∙ ones_cat w a r low in
    omega (arith, same, rest, bit, whole)

pub ones_is : (w x : ℕ) → x < 2 ^ w → ones x ≡ one_bits w x
unfolding one_bits
ones_is w x h = sym (ones_are w x h)
