-- The first and the last member of a set, going up from a number round the circle.
use Rattle.std.proofs.Common.{◌≡◌, ℕ, ◌+◌, ◌%◌, ◌^◌, ◌<◌, ◌≤◌, Bool, true, sym, ◌∙◌, ap, arith, inl, inr}
use Rattle.std.proofs.lemmas.Bool.{cases_lt, true≢false}
use Rattle.vfa_dom.specs.Search.{some_below, least_below, greatest_below}
use Rattle.vfa_dom.proofs.Searches.{some_found, found_some, IsLeast, least_found, least_is, IsGreatest, greatest_found, greatest_is}
use Rattle.vfa_wrap.specs.Arc.{steps}
use Rattle.vfa_wrap.proofs.Circle.{steps_is, ahead, steps_back}
use Rattle.vfa_wrap.proofs.Truth.{untrue}
use Rattle.vfa_fact.specs.Sharp.{first_from, last_from}

pub record IsFirst (w p : ℕ) (S : ℕ → Bool) (x : ℕ) : Type 0 where
  pub fits : x < 2 ^ w
  pub member : S x ≡ true
  pub first : (y : ℕ) → y < 2 ^ w → S y ≡ true → steps w p x ≤ steps w p y

pub record IsLast (w p : ℕ) (S : ℕ → Bool) (x : ℕ) : Type 0 where
  pub fits : x < 2 ^ w
  pub member : S x ≡ true
  pub last : (y : ℕ) → y < 2 ^ w → S y ≡ true → steps w p y ≤ steps w p x

module _ (w p : ℕ) (S : ℕ → Bool) (hp : p < 2 ^ w) where
  -- some number of steps leads to a member
  member_ahead : (x : ℕ) → x < 2 ^ w → S x ≡ true → S ((p + steps w p x) % 2 ^ w) ≡ true
  member_ahead x hx member = ap S (steps_back w p x hp hx) ∙ member

  some_ahead : some_below (2 ^ w) S ≡ true → some_below (2 ^ w) (λ k. S ((p + k) % 2 ^ w)) ≡ true
  some_ahead some =
      let found = found_some (2 ^ w) S some in
      some_found (2 ^ w) (λ k. S ((p + k) % 2 ^ w)) (steps w p found.at) ((steps_is w p found.at hp found.below).0)
      (member_ahead found.at found.below found.passes)

  pub first_is : (x : ℕ) → IsFirst w p S x → first_from w p S ≡ x
  unfolding first_from
  first_is x is =
      let to = steps_is w p x hp is.fits in
      let least : IsLeast (2 ^ w) (λ k. S ((p + k) % 2 ^ w)) (steps w p x) = record {
        below = to.0;
        passes = member_ahead x is.fits is.member;
        first = λ k less. untrue _ (λ member.
            let here = ahead w p k hp (omega (arith, to.0)) in
            let no_less = is.first ((p + k) % 2 ^ w) here.0 member in
            omega (arith, here.1));
      } in
      ap (λ n. (p + n) % 2 ^ w) (least_is (2 ^ w) _ _ least) ∙ steps_back w p x hp is.fits

  pub last_is : (x : ℕ) → IsLast w p S x → last_from w p S ≡ x
  unfolding last_from
  last_is x is =
      let to = steps_is w p x hp is.fits in
      let greatest : IsGreatest (2 ^ w) (λ k. S ((p + k) % 2 ^ w)) (steps w p x) = record {
        below = to.0;
        passes = member_ahead x is.fits is.member;
        last = λ k more below. untrue _ (λ member.
            let here = ahead w p k hp below in
            let no_more = is.last ((p + k) % 2 ^ w) here.0 member in
            omega (arith, here.1));
      } in
      ap (λ n. (p + n) % 2 ^ w) (greatest_is (2 ^ w) _ _ greatest) ∙ steps_back w p x hp is.fits

  pub first_found : some_below (2 ^ w) S ≡ true → IsFirst w p S (first_from w p S)
  unfolding first_from
  first_found some =
      let least = least_found (2 ^ w) (λ k. S ((p + k) % 2 ^ w)) (some_ahead some) in
      let here = ahead w p (least_below (2 ^ w) (λ k. S ((p + k) % 2 ^ w))) hp least.below in
      record {
        fits = here.0;
        member = least.passes;
        first = λ y hy member. elim (cases_lt (steps w p y) (least_below (2 ^ w) (λ k. S ((p + k) % 2 ^ w)))) [
          | inl less ↦ absurd (true≢false (sym (member_ahead y hy member) ∙ least.first (steps w p y) less))
          | inr no_less ↦ omega (arith, here.1, no_less)
        ];
      }

  pub last_found : some_below (2 ^ w) S ≡ true → IsLast w p S (last_from w p S)
  unfolding last_from
  last_found some =
      let greatest = greatest_found (2 ^ w) (λ k. S ((p + k) % 2 ^ w)) (some_ahead some) in
      let here = ahead w p (greatest_below (2 ^ w) (λ k. S ((p + k) % 2 ^ w))) hp greatest.below in
      record {
        fits = here.0;
        member = greatest.passes;
        last = λ y hy member. elim (cases_lt (greatest_below (2 ^ w) (λ k. S ((p + k) % 2 ^ w))) (steps w p y)) [
          | inl more ↦ absurd (true≢false (sym (member_ahead y hy member) ∙ greatest.last (steps w p y) more ((steps_is w p y hp hy).0)))
          | inr no_more ↦ omega (arith, here.1, no_more)
        ];
      }
