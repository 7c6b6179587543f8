-- Numbers from 2^128 on are of no range.
use Rattle.std.proofs.Common.{◌≡◌, ℕ, ◌-◌, ◌≤◌, ◌<◌, ◌^◌, Bool, true, false, ◌&&◌, ◌==◌, List, ◌∷◌, ◌⊎◌, ⊎_elim, refl, ap, ◌∙◌, arith, pow_mono, nat_lt, nat_le}
use Rattle.std.specs.Str.Parse.{digits_value}
use Rattle.std.proofs.lemmas.Bool.Decides.{nat_tests}
use Rattle.std.specs.Str.{byte}
use Rattle.vfa_ir.specs.Words.{is_digits}
use Rattle.vfa_read.specs.Tables.{fits_number}

abbrev pub NoNumber : List ℕ → Type 0
NoNumber digits = (is_digits digits ≡ false) ⊎ (2 ^ 128 ≤ digits_value 10 digits)

and_false : (b : Bool) → (b && false) ≡ false
and_false true = refl
and_false false = refl

not_le : (a b : ℕ) → b < a → nat_le a b ≡ false
not_le a b h = grind (arith, nat_tests)

not_lt : (a b : ℕ) → b ≤ a → nat_lt a b ≡ false
not_lt a b h = grind (arith, nat_tests)

no_number_le : (digits : List ℕ) (w : ℕ) → w ≤ 127 → NoNumber digits → (is_digits digits && nat_le (digits_value 10 digits) (2 ^ w)) ≡ false
no_number_le digits w h n = ⊎_elim
    (λ e. ap (λ b. b && nat_le (digits_value 10 digits) (2 ^ w)) e)
    (λ large. let small = pow_mono {i = w} {j = 127} h in let e = not_le (digits_value 10 digits) (2 ^ w) (omega arith) in ap (λ b. is_digits digits && b) e ∙ and_false (is_digits digits)) n

no_number_lt : (digits : List ℕ) (w : ℕ) → w ≤ 128 → NoNumber digits → (is_digits digits && nat_lt (digits_value 10 digits) (2 ^ w)) ≡ false
no_number_lt digits w h n = ⊎_elim
    (λ e. ap (λ b. b && nat_lt (digits_value 10 digits) (2 ^ w)) e)
    (λ large. let small = pow_mono {i = w} {j = 128} h in let e = not_lt (digits_value 10 digits) (2 ^ w) (omega arith) in ap (λ b. is_digits digits && b) e ∙ and_false (is_digits digits)) n

pub minus_no_number : (width : ℕ) (digits : List ℕ) → width ≤ 128 → NoNumber digits → fits_number width (45 ∷ digits) ≡ false
minus_no_number width digits h n = no_number_le digits (width - 1) (omega arith) n

pub plain_no_number : (width c : ℕ) (digits : List ℕ) → (c == byte "-") ≡ false → width ≤ 128 → NoNumber (c ∷ digits) → fits_number width (c ∷ digits) ≡ false
plain_no_number width c digits e h n = rw e (no_number_lt (c ∷ digits) width h n)
