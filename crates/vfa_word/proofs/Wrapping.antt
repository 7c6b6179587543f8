-- Masks of all bits of a width, and remainders modulo 2^w of what operations on 128 bits give.
use Rattle.std.proofs.Common.{◌≡◌, ℕ, suc, ◌+◌, ◌-◌, ◌*◌, ◌/◌, ◌%◌, ◌^◌, ◌<◌, ◌≤◌, refl, sym, ◌∙◌, ap, arith, bit_and, ℤ, pos, negsuc, ◌-ℤ◌, FitsSigned, of_z, zero, lt_of_mul-lt-mul_right, add-mul, suc-mul}
use Rattle.std.proofs.lemmas.Nat.{pow_pos, and_mask, pow-add, mod_below, mod-mul-add, div-add-mod'}
use Rattle.std.proofs.lemmas.Nat.Bits.{ones_shr}
use Rattle.std.proofs.Math.Pow.{mod-mod-pow}
use Rattle.std.proofs.Math.Nat.{add-mul-mod_self_right}
use Rattle.std.proofs.lemmas.Int.{ints}
use Rattle.std.specs.Int.{w128}
use Rattle.vfa_word.specs.Numbers.{wrap}

-- the mask that the code computes
pub mask_of_width : (w : ℕ) → w ≤ 128 → 340282366920938463463374607431768211455 / 2 ^ (128 - w) + 1 ≡ 2 ^ w
mask_of_width w h =
    let e : (2 ^ 128 - 1) / 2 ^ (128 - w) ≡ 2 ^ (128 - (128 - w)) - 1 = ones_shr 128 (128 - w) (omega arith) in
    let k : 128 - (128 - w) ≡ w = omega arith in
    let f : (2 ^ 128 - 1) / 2 ^ (128 - w) ≡ 2 ^ w - 1 = e ∙ ap (λ n. 2 ^ n - 1) k in
    omega (arith, pow_pos w, f)

-- to keep the bits of the mask is to take the remainder
pub masked : (n m w : ℕ) → m + 1 ≡ 2 ^ w → bit_and n m ≡ n % 2 ^ w
masked n m w e =
    let k : m ≡ 2 ^ w - 1 = omega arith in
    ap (bit_and n) k ∙ and_mask n w

-- a mask of at most k bits, with what a mask of k bits cuts off
pub narrower_mod : (n k w : ℕ) → w ≤ k → n % 2 ^ k % 2 ^ w ≡ n % 2 ^ w
narrower_mod n k w h =
    let e : k - w + w ≡ k = omega arith in
    ap (λ j. n % 2 ^ j % 2 ^ w) (sym e) ∙ mod-mod-pow n (k - w) w

-- 2^k is so many times 2^w
pub power_split : (k w : ℕ) → w ≤ k → 2 ^ k ≡ 2 ^ (k - w) * 2 ^ w
power_split k w h =
    let e : k - w + w ≡ k = omega arith in
    ap (λ j. 2 ^ j) (sym e) ∙ pow-add 2 (k - w) w

pub mod_is : (m n q r : ℕ) → n ≡ q * m + r → r < m → n % m ≡ r
mod_is m n q r e h = ap (λ k. k % m) e ∙ mod-mul-add q m r h

-- what n wraps to, where n and the whole number differ by a multiple of 2^w
pub wrap_pos : (w n m k : ℕ) → n ≡ m + k * 2 ^ w → n % 2 ^ w ≡ wrap w (pos m)
wrap_pos w n m k e = ap (λ j. j % 2 ^ w) e ∙ add-mul-mod_self_right m k (2 ^ w)

below_quotient : (p n m k : ℕ) → zero < p → n + suc m ≡ k * p → m / p < k
below_quotient p n m k h e =
    let s : m / p * p + m % p ≡ m = div-add-mod' m p in
    let l : m / p * p < k * p = omega arith in
    lt_of_mul-lt-mul_right p l

mod_negative : (p n m k q r : ℕ) → n + suc m ≡ k * p → m ≡ q * p + r → r < p → q < k → n % p ≡ p - 1 - r
mod_negative p n m k q r e f h l =
    let j : ℕ = k - suc q in
    let ek : k ≡ j + suc q = omega arith in
    let ep : k * p ≡ j * p + suc q * p = ap (λ x. x * p) ek ∙ add-mul j (suc q) p in
    let eq : suc q * p ≡ q * p + p = suc-mul q p in
    mod_is p n j (p - 1 - r) (omega arith) (omega arith)

pub wrap_negative : (w n m k : ℕ) → n + suc m ≡ k * 2 ^ w → n % 2 ^ w ≡ wrap w (negsuc m)
wrap_negative w n m k e =
    let p : ℕ = 2 ^ w in
    mod_negative (2 ^ w) n m k (m / 2 ^ w) (m % 2 ^ w) e (sym (div-add-mod' m (2 ^ w))) (mod_below m (2 ^ w) (pow_pos w))
    (below_quotient (2 ^ w) n m k (pow_pos w) e)

-- the bits of a whole number at 128 bits, cut to the width
pub wrap_of_bits : (w : ℕ) (z : ℤ) → w ≤ 128 → FitsSigned w128 z → of_z w128 z % 2 ^ w ≡ wrap w z
wrap_of_bits w (pos n) h f = refl
wrap_of_bits w (negsuc n) h f =
    wrap_negative w (2 ^ 128 - suc n) n (2 ^ (128 - w)) (omega (arith, power_split 128 w h, f.sfits))

-- what n wraps to, where n and a whole number a - b differ by a multiple of 2^w
pub wrap_less : (w n a b k : ℕ) (z : ℤ) → z ≡ pos a -ℤ pos b → n + b ≡ a + k * 2 ^ w → n % 2 ^ w ≡ wrap w z
wrap_less w n a b k (pos m) i e = wrap_pos w n m k (omega (arith, ints))
wrap_less w n a b k (negsuc m) i e = wrap_negative w n m k (omega (arith, ints))

-- the difference at 128 bits, cut to the width
pub wrap_difference : (w a b : ℕ) → w ≤ 128 → b ≤ 2 ^ 128 → (a + (2 ^ 128 - b)) % 2 ^ 128 % 2 ^ w ≡ wrap w (pos a -ℤ pos b)
wrap_difference w a b h l =
    narrower_mod (a + (2 ^ 128 - b)) 128 w h
    ∙ wrap_less w (a + (2 ^ 128 - b)) a b (2 ^ (128 - w)) (pos a -ℤ pos b) refl (omega (arith, power_split 128 w h))

pub wrap_below : (w : ℕ) (z : ℤ) → wrap w z < 2 ^ w
wrap_below w (pos n) = mod_below n (2 ^ w) (pow_pos w)
wrap_below w (negsuc n) = omega (arith, pow_pos w)

-- the difference of two numbers of the width, without whole numbers below 0
pub wrap_difference_is : (w a b : ℕ) → b ≤ 2 ^ w → wrap w (pos a -ℤ pos b) ≡ (a + (2 ^ w - b)) % 2 ^ w
wrap_difference_is w a b l =
    sym (wrap_less w (a + (2 ^ w - b)) a b 1 (pos a -ℤ pos b) refl (omega arith))
