-- The bits of numbers that are of the range of their width.
use Rattle.std.proofs.Common.{◌≡◌, ◌∙◌, ℕ, zero, suc, ◌-◌, ◌≤◌, ◌<◌, ◌^◌, ◌==◌, Bool, true, false, List, ◌∷◌, pos, neg_ℤ, refl, sym, ap, subst, arith, eqb-true, true≢false, ◌≤ℤ◌}
use Rattle.std.proofs.lemmas.Int.{ints}
use Rattle.std.specs.Str.{byte}
use Rattle.vfa_ir.specs.Grammar.{IsNumberOf}
use Rattle.vfa_ir.specs.Resolution.{bits_of}
use Rattle.vfa_read.proofs.NumberRanges.{is_fits}
use Rattle.vfa_read.proofs.Ranges.{NoNumber, minus_no_number, plain_no_number}

pub minus_absurd : (w c : ℕ) (text digits : List ℕ) → text ≡ c ∷ digits → c ≡ byte "-" → w ≤ 128 → NoNumber digits → IsNumberOf w text → ⊥
minus_absurd w c text digits is minus most none fits =
    let n : IsNumberOf w (45 ∷ digits) = subst (λ z. IsNumberOf w (z ∷ digits)) minus (subst (IsNumberOf w) is fits) in
    true≢false (sym (is_fits w (45 ∷ digits) n) ∙ minus_no_number w digits most none)

pub plain_absurd : (w c : ℕ) (text digits : List ℕ) → text ≡ c ∷ digits → (c ≡ byte "-" → ⊥) → w ≤ 128 → NoNumber text → IsNumberOf w text → ⊥
plain_absurd w c text digits is plain most none fits =
    let n : IsNumberOf w (c ∷ digits) = subst (IsNumberOf w) is fits in
    let m : NoNumber (c ∷ digits) = subst NoNumber is none in
    go (c == byte "-") refl (λ e. true≢false (sym (is_fits w (c ∷ digits) n) ∙ plain_no_number w c digits e most m))
  where
    go : (b : Bool) → (c == byte "-") ≡ b → ((c == byte "-") ≡ false → ⊥) → ⊥
    go true e k = plain (eqb-true c (byte "-") e)
    go false e k = k e

least_is : (v m : ℕ) → neg_ℤ (pos m) ≤ℤ neg_ℤ (pos v) → v ≤ m
least_is v m h = omega (arith, ints)

negative_bits : (w v : ℕ) → 0 < v → 2 ^ w - 1 - (v - 1) ≡ bits_of w (neg_ℤ (pos v))
negative_bits w zero h = omega arith
negative_bits w (suc k) h = let e : suc k - 1 ≡ k = omega arith in ap (λ m. 2 ^ w - 1 - m) e
