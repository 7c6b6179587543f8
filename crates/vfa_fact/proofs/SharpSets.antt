-- Sharp facts of sets: the function and the relation with witnesses determine each other.
use Rattle.std.proofs.Common.{◌≡◌, ℕ, ◌^◌, ◌<◌, ◌≤◌, Bool, true, false, sym, ◌∙◌, ap, subst, ◌⊎◌, inl, inr, Option, Some, None}
use Rattle.std.proofs.lemmas.Bool.{cases_Bool, cond-true, cond-false}
use Rattle.vfa_dom.specs.Search.{some_below}
use Rattle.vfa_dom.specs.Sets.{Tests}
use Rattle.vfa_dom.specs.Best.{IsBest, zeros_of, ones_of}
use Rattle.vfa_dom.proofs.Searches.{some_found, none_found, none_passes}
use Rattle.vfa_dom.proofs.Bests.{zeros_are, ones_are, best_has}
use Rattle.vfa_dom.proofs.ResultSets.{IsBest-alike}
use Rattle.vfa_wrap.specs.Arc.{steps}
use Rattle.vfa_fact.specs.declared.numbers.Numbers.{Numbers}
use Rattle.vfa_fact.specs.Sharp.{first_from, last_from, sharp_of}
use Rattle.vfa_fact.proofs.Going.{IsFirst, IsLast, first_is, last_is, first_found, last_found}

-- a number of width w in the set
pub record Member (w : ℕ) (S : ℕ → Bool) (x : ℕ) : Type 0 where
  pub fits : x < 2 ^ w
  pub is : S x ≡ true

pub member_test : (w : ℕ) (S : ℕ → Bool) → Tests w (Member w S) S
member_test w S = record {
  fits = λ x member. member.fits;
  passes = λ x member. member.is;
  member = λ x below passes. record { fits = below; is = passes };
}

-- the sharp fact of a set, going up from p
pub record IsSharp (w p : ℕ) (S : ℕ → Bool) (n : Numbers) : Type 0 where
  pub best : IsBest w (Member w S) n.zeros n.ones
  pub first : IsFirst w p S n.first
  pub last : IsLast w p S n.last

numbers : ℕ → ℕ → ℕ → ℕ → Numbers
numbers z o f l = record { zeros = z; ones = o; first = f; last = l }

same_numbers : (z z' o o' f f' l l' : ℕ) → z ≡ z' → o ≡ o' → f ≡ f' → l ≡ l' → numbers z o f l ≡ numbers z' o' f' l'
same_numbers z z' o o' f f' l l' ez eo ef el = cc

pub sharp_is : (w p : ℕ) (S : ℕ → Bool) (n : Numbers) → p < 2 ^ w → IsSharp w p S n → sharp_of w p S ≡ Some n
unfolding sharp_of numbers
sharp_is w p S n hp is =
    let some = some_found (2 ^ w) S n.first is.first.fits is.first.member in
    let same_zeros = zeros_are w (Member w S) S (member_test w S) n.zeros n.ones is.best in
    let same_ones = ones_are w (Member w S) S (member_test w S) n.zeros n.ones is.best in
    let same_first = first_is w p S hp n.first is.first in
    let same_last = last_is w p S hp n.last is.last in
    cond-true (some_below (2 ^ w) S) _ None some
    ∙ ap Some (same_numbers (zeros_of w S) n.zeros (ones_of w S) n.ones (first_from w p S) n.first (last_from w p S) n.last (sym same_zeros) (sym same_ones) same_first same_last)

pub sharp_none : (w p : ℕ) (S : ℕ → Bool) → ((x : ℕ) → x < 2 ^ w → S x ≡ false) → sharp_of w p S ≡ None
unfolding sharp_of
sharp_none w p S none = cond-false (some_below (2 ^ w) S) _ None (none_found (2 ^ w) S none)

-- the two cases of a set
pub record Sharpens (w p : ℕ) (S : ℕ → Bool) : Type 0 where
  pub numbers : Numbers
  pub is : IsSharp w p S numbers
  pub equal : sharp_of w p S ≡ Some numbers

pub record Empties (w p : ℕ) (S : ℕ → Bool) : Type 0 where
  pub none : (x : ℕ) → x < 2 ^ w → S x ≡ false
  pub equal : sharp_of w p S ≡ None

pub sharp_cases : (w p : ℕ) (S : ℕ → Bool) → p < 2 ^ w → Empties w p S ⊎ Sharpens w p S
unfolding sharp_of
sharp_cases w p S hp = elim (cases_Bool (some_below (2 ^ w) S)) [
  | inl some ↦ inr (record {
    numbers = record { zeros = zeros_of w S; ones = ones_of w S; first = first_from w p S; last = last_from w p S };
    is = record { best = best_has w (Member w S) S (member_test w S); first = first_found w p S hp some; last = last_found w p S hp some };
    equal = cond-true (some_below (2 ^ w) S) _ None some;
  })
  | inr none ↦ inl (record { none = none_passes (2 ^ w) S none; equal = cond-false (some_below (2 ^ w) S) _ None none })
]

none_not_some : (n : Numbers) → ◌≡◌ {A = Option Numbers} None (Some n) → ⊥
none_not_some n same = cc

pub sharp_tells : (w p : ℕ) (S : ℕ → Bool) (n : Numbers) → p < 2 ^ w → sharp_of w p S ≡ Some n → IsSharp w p S n
sharp_tells w p S n hp same = elim (sharp_cases w p S hp) [
  | inl empty ↦ absurd (none_not_some n (sym empty.equal ∙ same))
  | inr some ↦ subst (IsSharp w p S) (of_some some.numbers n (sym some.equal ∙ same)) some.is
]
  where
    of_some : (a b : Numbers) → Some a ≡ Some b → a ≡ b
    of_some a b e = cc

pub sharp_none_tells : (w p : ℕ) (S : ℕ → Bool) → p < 2 ^ w → sharp_of w p S ≡ None → (x : ℕ) → x < 2 ^ w → S x ≡ false
sharp_none_tells w p S hp same = elim (sharp_cases w p S hp) [
  | inl empty ↦ empty.none
  | inr some ↦ absurd (none_not_some some.numbers (sym same ∙ some.equal))
]

-- sets with the same numbers, seen from numbers between which they keep their order, have the same sharp fact
pub sharp_moved : (w p q : ℕ) (S T : ℕ → Bool) → p < 2 ^ w → q < 2 ^ w → ((x : ℕ) → x < 2 ^ w → S x ≡ T x) →
    ((x y : ℕ) → x < 2 ^ w → y < 2 ^ w → S x ≡ true → S y ≡ true → steps w p x ≤ steps w p y → steps w q x ≤ steps w q y) →
    sharp_of w p S ≡ sharp_of w q T
sharp_moved w p q S T hp hq alike keeps = elim (sharp_cases w p S hp) [
  | inl empty ↦ empty.equal ∙ sym (sharp_none w q T (λ x hx. sym (alike x hx) ∙ empty.none x hx))
  | inr some ↦ some.equal ∙ sym (sharp_is w q T some.numbers hq (record {
    best = IsBest-alike w (Member w S) (Member w T) some.numbers.zeros some.numbers.ones
        (λ x member. record { fits = member.fits; is = sym (alike x member.fits) ∙ member.is })
        (λ x member. record { fits = member.fits; is = alike x member.fits ∙ member.is }) some.is.best;
    first = record {
      fits = some.is.first.fits;
      member = sym (alike some.numbers.first some.is.first.fits) ∙ some.is.first.member;
      first = λ y hy member. keeps some.numbers.first y some.is.first.fits hy some.is.first.member (alike y hy ∙ member)
          (some.is.first.first y hy (alike y hy ∙ member));
    };
    last = record {
      fits = some.is.last.fits;
      member = sym (alike some.numbers.last some.is.last.fits) ∙ some.is.last.member;
      last = λ y hy member. keeps y some.numbers.last hy some.is.last.fits (alike y hy ∙ member) some.is.last.member
          (some.is.last.last y hy (alike y hy ∙ member));
    };
  }))
]

pub sharp_alike : (w p : ℕ) (S T : ℕ → Bool) → p < 2 ^ w → ((x : ℕ) → x < 2 ^ w → S x ≡ T x) → sharp_of w p S ≡ sharp_of w p T
sharp_alike w p S T hp alike = sharp_moved w p p S T hp hp alike (λ x y hx hy mx my less. less)
