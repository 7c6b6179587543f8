-- Membership in lists of numbers.
use Rattle.std.proofs.Common.{◌≡◌, ℕ, zero, suc, Bool, true, false, not, ◌&&◌, ◌||◌, nat_eq, List, [], ◌∷◌, ◌++◌, Some, refl, sym, ◌∙◌, inl, inr, ◌⊎◌}
use Rattle.std.proofs.lemmas.Bool.{eqb-true, eq-eqb}
use Rattle.std.proofs.lemmas.List.Folds.{list_any-append}
use Rattle.std.specs.List.{AllByRecursion, IsDistinct, slice_get}
use Rattle.vfa_ir.specs.Walks.{is_in}

pub false_is_no_truth : {b : Bool} {X : Type 0} → b ≡ true → b ≡ false → X
false_is_no_truth t f = absurd (cc)

pub or_cases : (a b : Bool) → (a || b) ≡ true → (a ≡ true) ⊎ (b ≡ true)
or_cases true b h = inl refl
or_cases false b h = inr h

pub or_left : (a b : Bool) → a ≡ true → (a || b) ≡ true
or_left true b h = refl
or_left false b h = absurd (cc)

pub or_right : (a b : Bool) → b ≡ true → (a || b) ≡ true
or_right true b h = refl
or_right false b h = h

pub same_bool : (a b : Bool) → (a ≡ true → b ≡ true) → (b ≡ true → a ≡ true) → a ≡ b
same_bool true true f g = refl
same_bool false false f g = refl
same_bool true false f g = sym (f refl)
same_bool false true f g = g refl

pub bool_cases : (b : Bool) → (b ≡ true) ⊎ (b ≡ false)
bool_cases true = inl refl
bool_cases false = inr refl

pub no_truth : (b : Bool) → (b ≡ true → ⊥) → b ≡ false
no_truth true h = absurd (h refl)
no_truth false h = refl

pub and_left : (a b : Bool) → (a && b) ≡ true → a ≡ true
and_left true b h = refl
and_left false b h = h

pub and_right : (a b : Bool) → (a && b) ≡ true → b ≡ true
and_right true b h = h
and_right false b h = absurd (cc)

pub and_false : (a b : Bool) → a ≡ true → (a && not b) ≡ false → b ≡ true
and_false true true t h = refl
and_false true false t h = absurd (cc)
and_false false b t h = absurd (cc)

pub not_true : (b : Bool) → not b ≡ true → b ≡ false
not_true true h = absurd (cc)
not_true false h = refl

pub is_in-append : (x : ℕ) (xs ys : List ℕ) → is_in x (xs ++ ys) ≡ (is_in x xs || is_in x ys)
is_in-append x xs ys = list_any-append (nat_eq x) xs ys

pub in_left : (x : ℕ) (xs ys : List ℕ) → is_in x xs ≡ true → is_in x (xs ++ ys) ≡ true
in_left x xs ys h = is_in-append x xs ys ∙ or_left _ _ h

pub in_right : (x : ℕ) (xs ys : List ℕ) → is_in x ys ≡ true → is_in x (xs ++ ys) ≡ true
in_right x xs ys h = is_in-append x xs ys ∙ or_right (is_in x xs) _ h

pub in_cases : (x : ℕ) (xs ys : List ℕ) → is_in x (xs ++ ys) ≡ true → (is_in x xs ≡ true) ⊎ (is_in x ys ≡ true)
in_cases x xs ys h = or_cases (is_in x xs) (is_in x ys) (sym (is_in-append x xs ys) ∙ h)

pub in_first : (x : ℕ) (xs : List ℕ) → is_in x (x ∷ xs) ≡ true
in_first x xs = or_left (nat_eq x x) (is_in x xs) (eq-eqb x x refl)

pub in_rest : (x y : ℕ) (xs : List ℕ) → is_in x xs ≡ true → is_in x (y ∷ xs) ≡ true
in_rest x y xs h = or_right (nat_eq x y) (is_in x xs) h

pub first_or_rest : (x y : ℕ) (xs : List ℕ) → is_in x (y ∷ xs) ≡ true → (x ≡ y) ⊎ (is_in x xs ≡ true)
first_or_rest x y xs h = elim (or_cases (nat_eq x y) (is_in x xs) h) [ inl e ↦ inl (eqb-true x y e) | inr e ↦ inr e ]

-- a number at a place is in the list
pub in_from_place : (xs : List ℕ) (k x : ℕ) → slice_get xs k ≡ Some x → is_in x xs ≡ true
in_from_place [] k x h = absurd (cc)
in_from_place (y ∷ xs) zero x h = or_left (nat_eq x y) (is_in x xs) (eq-eqb x y cc)
in_from_place (y ∷ xs) (suc k) x h = in_rest x y xs (in_from_place xs k x h)

-- Distinct lists

apart : (x : ℕ) (xs : List ℕ) → is_in x xs ≡ false → AllByRecursion (λ y. nat_eq x y ≡ false) xs
apart x [] h = tt
apart x (y ∷ xs) h = elim (bool_cases (nat_eq x y)) [
  | inl e ↦ absurd (false_is_no_truth {X = ⊥} (or_left (nat_eq x y) (is_in x xs) e) h)
  | inr e ↦ (e, apart x xs (no_truth (is_in x xs) (λ t. false_is_no_truth (or_right (nat_eq x y) (is_in x xs) t) h)))
]

pub distinct_cons : (x : ℕ) (xs : List ℕ) → is_in x xs ≡ false → IsDistinct nat_eq xs → IsDistinct nat_eq (x ∷ xs)
unfolding IsDistinct
distinct_cons x xs h d = (apart x xs h, d)

pub distinct_nil : IsDistinct nat_eq []
unfolding IsDistinct
distinct_nil = tt

pub apart_in : (x : ℕ) (xs : List ℕ) → AllByRecursion (λ y. nat_eq x y ≡ false) xs → is_in x xs ≡ false
apart_in x [] h = refl
apart_in x (y ∷ xs) h = let e = h.0 in let r = apart_in x xs h.1 in cc

pub distinct_append :
    (xs ys : List ℕ) → IsDistinct nat_eq xs → IsDistinct nat_eq ys →
    ((x : ℕ) → is_in x xs ≡ true → is_in x ys ≡ false) → IsDistinct nat_eq (xs ++ ys)
unfolding IsDistinct
distinct_append [] ys d e h = e
distinct_append (x ∷ xs) ys d e h =
    let here : is_in x (xs ++ ys) ≡ false =
    no_truth (is_in x (xs ++ ys)) (λ t. elim (in_cases x xs ys t) [
      | inl l ↦ false_is_no_truth l (apart_in x xs d.0)
      | inr r ↦ false_is_no_truth r (h x (in_first x xs))
    ]) in
    (apart x (xs ++ ys) here, distinct_append xs ys d.1 e (λ y t. h y (in_rest y x xs t)))
