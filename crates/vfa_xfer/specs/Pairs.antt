-- Answers of a comparison over pairs, by pairs that show them.
use Rattle.std.proofs.Common.{◌≡◌, ℕ, ◌^◌, ◌<◌, Bool, true, false, ◌&&◌, refl, sym, ◌∙◌, ap}
use Rattle.std.proofs.lemmas.Bool.{and_parts, and_from}
use Rattle.vfa_dom.proofs.Searches.{some_found, found_some}
use Rattle.vfa_fact.proofs.Decisions.{Pair}
use Rattle.vfa_xfer.specs.declared.comparisons.Answers.{Answers}
use Rattle.vfa_xfer.specs.Comparisons.{some_pair}

-- a pair of a number of A and one of B that passes
abbrev pub Passing : ℕ → (ℕ → ℕ → Bool) → (ℕ → Bool) → (ℕ → Bool) → Type 0
Passing w test A B = Pair w test A B true

pub pair_from : (w : ℕ) (test : ℕ → ℕ → Bool) (A B : ℕ → Bool) → Passing w test A B → some_pair w test A B ≡ true
unfolding some_pair
pair_from w test A B p =
    some_found (2 ^ w) _ p.left p.left_fits
    (and_from (A p.left) _ p.left_in
    (some_found (2 ^ w) (λ y. B y && test p.left y) p.right p.right_fits (and_from (B p.right) (test p.left p.right) p.right_in p.is)))

pub pair_at : (w : ℕ) (test : ℕ → ℕ → Bool) (A B : ℕ → Bool) → some_pair w test A B ≡ true → Passing w test A B
unfolding some_pair
pair_at w test A B some =
    let one = found_some (2 ^ w) _ some in
    let parts = and_parts (A one.at) _ one.passes in
    let two = found_some (2 ^ w) (λ y. B y && test one.at y) parts.1 in
    let parts' = and_parts (B two.at) (test one.at two.at) two.passes in
    record {
      left = one.at;
      right = two.at;
      left_fits = one.below;
      right_fits = two.below;
      left_in = parts.0;
      right_in = parts'.0;
      is = parts'.1;
    }

same_Bool : (a b : Bool) → (a ≡ true → b ≡ true) → (b ≡ true → a ≡ true) → a ≡ b
same_Bool true b f g = sym (f refl)
same_Bool false true f g = g refl
same_Bool false false f g = refl

-- a yes exactly where some pair passes
pub pair_is : (w : ℕ) (test : ℕ → ℕ → Bool) (A B : ℕ → Bool) (b : Bool) → (b ≡ true → Passing w test A B) → (Passing w test A B → b ≡ true) → b ≡ some_pair w test A B
pair_is w test A B b shows back = same_Bool b (some_pair w test A B) (λ e. pair_from w test A B (shows e)) (λ e. back (pair_at w test A B e))

-- a pair that passes one test, and another
pub passing_too : (w : ℕ) (S T : ℕ → ℕ → Bool) (A B : ℕ → Bool) (answer : Bool) (p : Pair w S A B answer) → T p.left p.right ≡ true → Passing w T A B
passing_too w S T A B answer p passes = record {
  left = p.left;
  right = p.right;
  left_fits = p.left_fits;
  right_fits = p.right_fits;
  left_in = p.left_in;
  right_in = p.right_in;
  is = passes;
}

pub pairs_alike : (w : ℕ) (S T : ℕ → ℕ → Bool) (A B : ℕ → Bool) → ((x y : ℕ) → x < 2 ^ w → y < 2 ^ w → S x y ≡ T x y) → some_pair w S A B ≡ some_pair w T A B
pairs_alike w S T A B alike = pair_is w T A B (some_pair w S A B)
    (λ e. let p = pair_at w S A B e in passing_too w S T A B true p (sym (alike p.left p.right p.left_fits p.right_fits) ∙ p.is))
    (λ p. pair_from w S A B (passing_too w T S A B true p (alike p.left p.right p.left_fits p.right_fits ∙ p.is)))

abbrev parts : Bool → Bool → Answers
parts a b = record { yes = a; no = b }

-- equal parts make equal answers
pub answers_same : (y n y' n' : Bool) → y ≡ y' → n ≡ n' → parts y n ≡ parts y' n'
answers_same y n y' n' ey en = ap (λ (a : Bool). parts a n) ey ∙ ap (λ (b : Bool). parts y' b) en
