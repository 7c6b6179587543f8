-- Answers of tests.
use Rattle.std.proofs.Common.{◌≡◌, Bool, true, false, refl, sym}

pub untrue : (b : Bool) → (b ≡ true → ⊥) → b ≡ false
untrue true h = absurd (h refl)
untrue false h = refl

-- two tests that say yes together are one
pub same_answers : (a b : Bool) → (a ≡ true → b ≡ true) → (b ≡ true → a ≡ true) → a ≡ b
same_answers true true f g = refl
same_answers true false f g = sym (f refl)
same_answers false true f g = g refl
same_answers false false f g = refl
