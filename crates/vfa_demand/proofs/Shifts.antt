-- Masks shifted at 128 bits, as those of a width.
use Rattle.std.proofs.Common.{◌≡◌, ◌<◌, ◌≤◌, ℕ, ◌-◌, ◌*◌, ◌/◌, ◌%◌, ◌^◌, Bool, true, false, nat_lt, bit_or, if◌then◌else◌, ap, refl, ◌∙◌, rules}
use Rattle.std.proofs.lemmas.Nat.Bits.{ones_shr}
use Rattle.vfa_ir.specs.declared.operations.Operand.{Operand}
use Rattle.vfa_word.proofs.Wrapping.{narrower_mod}
use Rattle.vfa_word.specs.Operations.{shifted_left}
use Rattle.vfa_demand.specs.Rows.{right_value, right_signed_value, all_bits, sign_if}

-- to the left, cut to the width
pub left_cut : (w m t : ℕ) → w ≤ 128 → (m * 2 ^ t) % 2 ^ 128 % 2 ^ w ≡ shifted_left w m t
left_cut w m t h = narrower_mod (m * 2 ^ t) 128 w h

-- the bits of a width that a shift to the right leaves
pub ones_left : (w t : ℕ) → t ≤ w → (2 ^ w - 1) / 2 ^ t ≡ 2 ^ (w - t) - 1
ones_left w t h = ones_shr w t h

if_below : {A : Type 0} (t w : ℕ) (x y : A) → t < w → (if nat_lt t w then x else y) ≡ x
if_below t w x y h = of (nat_lt t w) (search rules)
  where
    of : (b : Bool) → b ≡ true → (if b then x else y) ≡ x
    of true e = refl
    of false e = absurd (cc)

pub right_of_literal : (w : ℕ) (o : Operand) (t d : ℕ) → o ≡ Operand.Literal t → t < w → right_value w o d ≡ shifted_left w d t
unfolding right_value
right_of_literal w o t d e h = ap (λ o. right_value w o d) e ∙ if_below t w (shifted_left w d t) (all_bits w) h

pub signed_of_literal : (w : ℕ) (o : Operand) (t d : ℕ) → o ≡ Operand.Literal t → t < w →
    right_signed_value w o d ≡ bit_or (shifted_left w d t) (sign_if (nat_lt (2 ^ (w - t) - 1) d) w)
unfolding right_signed_value
signed_of_literal w o t d e h =
    ap (λ o. right_signed_value w o d) e ∙ if_below t w (bit_or (shifted_left w d t) (sign_if (nat_lt (2 ^ (w - t) - 1) d) w)) (all_bits w) h

pub or_same : (x x' y y' : ℕ) → x ≡ x' → y ≡ y' → bit_or x y ≡ bit_or x' y'
or_same x x' y y' e f = ap (λ a. bit_or a y) e ∙ ap (bit_or x') f
