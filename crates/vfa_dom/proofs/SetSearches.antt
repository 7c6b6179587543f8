-- What the searches in a set answer.
use Rattle.std.proofs.Common.{◌≡◌, ℕ, ◌^◌, ◌<◌, ◌≤◌, Bool, true, false, not, ◌&&◌, ◌||◌, refl, sym, ◌∙◌, ap, subst, arith, inl, inr, Option, Some, None}
use Rattle.std.specs.Prelude.{nat_eq, nat_le, IsTrue, ◌↔◌}
use Rattle.std.proofs.lemmas.Bool.{cases_Bool, cases_lt, and_parts, and_from, or_cases, or_left, or_right, eqb-true, eq-eqb, ne_eqb, cond-true, cond-false, and_right, and_left, leb-true, le-leb, not_from_true, true≢false}
use Rattle.vfa_dom.specs.Search.{some_below, least_below, greatest_below}
use Rattle.vfa_dom.specs.Sets.{meet, at_or_after, at_or_before, includes, least_of, greatest_of, single_of}
use Rattle.vfa_dom.proofs.Searches.{some_found, none_found, none_passes, all_pass, all_from, all_fails, IsLeast, least_found, least_is, IsGreatest, greatest_found, greatest_is}

-- ---- meets and includes

pub meet_from : (S T : ℕ → Bool) (x : ℕ) → S x ≡ true → T x ≡ true → meet S T x ≡ true
unfolding meet
meet_from S T x one two = and_from (S x) (T x) one two

pub meet_parts : (S T : ℕ → Bool) (x : ℕ) → meet S T x ≡ true → (S x ≡ true) × (T x ≡ true)
unfolding meet
meet_parts S T x both = and_parts (S x) (T x) both

pub includes_from : (w : ℕ) (S T : ℕ → Bool) → ((x : ℕ) → x < 2 ^ w → T x ≡ true → S x ≡ true) → includes w S T ≡ true
unfolding includes
includes_from w S T each = all_from (2 ^ w) (λ x. not (T x) || S x) (λ x below. elim (cases_Bool (T x)) [
  | inl member ↦ or_right (not (T x)) (S x) (each x below member)
  | inr other ↦ or_left (not (T x)) (S x) (ap not other)
])

pub includes_tells : (w : ℕ) (S T : ℕ → Bool) → includes w S T ≡ true → (x : ℕ) → x < 2 ^ w → T x ≡ true → S x ≡ true
unfolding includes
includes_tells w S T all x below member =
    elim (or_cases (not (T x)) (S x) (all_pass (2 ^ w) (λ y. not (T y) || S y) all x below)) [
      | inl outside ↦ absurd (true≢false (sym outside ∙ not_from_true (T x) member))
      | inr inside ↦ inside
    ]

pub includes_fails : (w : ℕ) (S T : ℕ → Bool) (x : ℕ) → x < 2 ^ w → T x ≡ true → S x ≡ false → includes w S T ≡ false
unfolding includes
includes_fails w S T x below member outside =
    all_fails (2 ^ w) (λ y. not (T y) || S y) x below (let one = not_from_true (T x) member in or_none (not (T x)) (S x) one outside)
  where
    or_none : (a b : Bool) → a ≡ false → b ≡ false → (a || b) ≡ false
    or_none a b one two = cc

-- ---- the least and the greatest member

pub least_of_is : (w : ℕ) (S : ℕ → Bool) (x : ℕ) → IsLeast (2 ^ w) S x → least_of w S ≡ Some x
unfolding least_of
least_of_is w S x least =
    cond-true (some_below (2 ^ w) S) (Some (least_below (2 ^ w) S)) None (some_found (2 ^ w) S x least.below least.passes)
    ∙ ap Some (least_is (2 ^ w) S x least)

pub least_of_none : (w : ℕ) (S : ℕ → Bool) → ((x : ℕ) → x < 2 ^ w → S x ≡ false) → least_of w S ≡ None
unfolding least_of
least_of_none w S outside =
    cond-false (some_below (2 ^ w) S) (Some (least_below (2 ^ w) S)) None (none_found (2 ^ w) S outside)

pub greatest_of_is : (w : ℕ) (S : ℕ → Bool) (x : ℕ) → IsGreatest (2 ^ w) S x → greatest_of w S ≡ Some x
unfolding greatest_of
greatest_of_is w S x greatest =
    cond-true (some_below (2 ^ w) S) (Some (greatest_below (2 ^ w) S)) None (some_found (2 ^ w) S x greatest.below greatest.passes)
    ∙ ap Some (greatest_is (2 ^ w) S x greatest)

pub greatest_of_none : (w : ℕ) (S : ℕ → Bool) → ((x : ℕ) → x < 2 ^ w → S x ≡ false) → greatest_of w S ≡ None
unfolding greatest_of
greatest_of_none w S outside =
    cond-false (some_below (2 ^ w) S) (Some (greatest_below (2 ^ w) S)) None (none_found (2 ^ w) S outside)

-- ---- the members at or after a number, and at or before it

pub after_from : (x : ℕ) (S : ℕ → Bool) (y : ℕ) → S y ≡ true → x ≤ y → at_or_after x S y ≡ true
unfolding at_or_after
after_from x S y member above = and_from (S y) (nat_le x y) member (le-leb x y above)

pub after_parts : (x : ℕ) (S : ℕ → Bool) (y : ℕ) → at_or_after x S y ≡ true → (S y ≡ true) × (x ≤ y)
unfolding at_or_after
after_parts x S y both = let parts = and_parts (S y) (nat_le x y) both in (parts.0, leb-true x y parts.1)

pub before_from : (x : ℕ) (S : ℕ → Bool) (y : ℕ) → S y ≡ true → y ≤ x → at_or_before x S y ≡ true
unfolding at_or_before
before_from x S y member below = and_from (S y) (nat_le y x) member (le-leb y x below)

pub before_parts : (x : ℕ) (S : ℕ → Bool) (y : ℕ) → at_or_before x S y ≡ true → (S y ≡ true) × (y ≤ x)
unfolding at_or_before
before_parts x S y both = let parts = and_parts (S y) (nat_le y x) both in (parts.0, leb-true y x parts.1)

-- a member is not below the least and not above the greatest
pub not_above : (n : ℕ) (S : ℕ → Bool) (x : ℕ) {least : ℕ} → IsLeast n S least → S x ≡ true → least ≤ x
not_above n S x {least} is member = elim (cases_lt x least) [
  | inl less ↦ absurd (true≢false (sym member ∙ is.first x less))
  | inr fine ↦ fine
]

pub not_below : (n : ℕ) (S : ℕ → Bool) (x : ℕ) {greatest : ℕ} → x < n → IsGreatest n S greatest → S x ≡ true → x ≤ greatest
not_below n S x {greatest} below is member = elim (cases_lt greatest x) [
  | inl less ↦ absurd (true≢false (sym member ∙ is.last x less below))
  | inr fine ↦ fine
]

-- ---- the only member

pub single_of_is : (w : ℕ) (S : ℕ → Bool) (x : ℕ) → x < 2 ^ w → S x ≡ true →
    ((y : ℕ) → y < 2 ^ w → S y ≡ true → y ≡ x) → single_of w S ≡ Some x
unfolding single_of
single_of_is w S x below member only =
    let some = some_found (2 ^ w) S x below member in
    let least = least_found (2 ^ w) S some in
    let greatest = greatest_found (2 ^ w) S some in
    let least_same : least_below (2 ^ w) S ≡ x = only (least_below (2 ^ w) S) least.below least.passes in
    let greatest_same : greatest_below (2 ^ w) S ≡ x = only (greatest_below (2 ^ w) S) greatest.below greatest.passes in
    cond-true (some_below (2 ^ w) S && nat_eq (least_below (2 ^ w) S) (greatest_below (2 ^ w) S))
    (Some (least_below (2 ^ w) S)) None
    (and_from (some_below (2 ^ w) S) (nat_eq (least_below (2 ^ w) S) (greatest_below (2 ^ w) S)) some
    (eq-eqb (least_below (2 ^ w) S) (greatest_below (2 ^ w) S) (least_same ∙ sym greatest_same)))
    ∙ ap Some least_same

pub single_of_empty : (w : ℕ) (S : ℕ → Bool) → ((x : ℕ) → x < 2 ^ w → S x ≡ false) → single_of w S ≡ None
unfolding single_of
single_of_empty w S outside =
    cond-false (some_below (2 ^ w) S && nat_eq (least_below (2 ^ w) S) (greatest_below (2 ^ w) S))
    (Some (least_below (2 ^ w) S)) None
    (and_left (some_below (2 ^ w) S) (nat_eq (least_below (2 ^ w) S) (greatest_below (2 ^ w) S)) (none_found (2 ^ w) S outside))

pub single_of_several : (w : ℕ) (S : ℕ → Bool) (x y : ℕ) → x < 2 ^ w → S x ≡ true → y < 2 ^ w → S y ≡ true → x < y →
    single_of w S ≡ None
unfolding single_of
single_of_several w S x y below member below' member' less =
    let some = some_found (2 ^ w) S x below member in
    let least = least_found (2 ^ w) S some in
    let greatest = greatest_found (2 ^ w) S some in
    cond-false (some_below (2 ^ w) S && nat_eq (least_below (2 ^ w) S) (greatest_below (2 ^ w) S))
    (Some (least_below (2 ^ w) S)) None
    (and_right (some_below (2 ^ w) S) (nat_eq (least_below (2 ^ w) S) (greatest_below (2 ^ w) S))
    (ne_eqb (least_below (2 ^ w) S) (greatest_below (2 ^ w) S) (λ same.
    let low : least_below (2 ^ w) S ≤ x = not_above (2 ^ w) S x least member in
    let high : y ≤ greatest_below (2 ^ w) S = not_below (2 ^ w) S y below' greatest member' in
    omega arith)))

none_not_some : (x : ℕ) → ◌≡◌ {A = Option ℕ} None (Some x) → ⊥
none_not_some x same = cc

-- the answer is some number exactly where it is the only member
pub single_of_tells : (w : ℕ) (S : ℕ → Bool) (x : ℕ) → single_of w S ≡ Some x →
    (S x ≡ true) × (x < 2 ^ w) × ((y : ℕ) → y < 2 ^ w → S y ≡ true → y ≡ x)
unfolding single_of
single_of_tells w S x answer = elim (cases_Bool (some_below (2 ^ w) S && nat_eq (least_below (2 ^ w) S) (greatest_below (2 ^ w) S))) [
  | inl one ↦
      let parts = and_parts (some_below (2 ^ w) S) (nat_eq (least_below (2 ^ w) S) (greatest_below (2 ^ w) S)) one in
      let ends = eqb-true (least_below (2 ^ w) S) (greatest_below (2 ^ w) S) parts.1 in
      let least = least_found (2 ^ w) S parts.0 in
      let greatest = greatest_found (2 ^ w) S parts.0 in
      let some : Some (least_below (2 ^ w) S) ≡ Some x =
      sym (cond-true (some_below (2 ^ w) S && nat_eq (least_below (2 ^ w) S) (greatest_below (2 ^ w) S)) (Some (least_below (2 ^ w) S)) None one) ∙ answer in
      let same : least_below (2 ^ w) S ≡ x = cc in (
        ap S (sym same) ∙ least.passes,
        (let below = least.below in omega arith),
        λ y below member.
            let low : least_below (2 ^ w) S ≤ y = not_above (2 ^ w) S y least member in
            let high : y ≤ greatest_below (2 ^ w) S = not_below (2 ^ w) S y below greatest member in
            omega arith,
      )
  | inr other ↦
      let none : None ≡ Some x =
      sym (cond-false (some_below (2 ^ w) S && nat_eq (least_below (2 ^ w) S) (greatest_below (2 ^ w) S)) (Some (least_below (2 ^ w) S)) None other) ∙ answer in
      absurd (none_not_some x none)
]

pub single_of_exact : (w : ℕ) (S : ℕ → Bool) → ((y : ℕ) → S y ≡ true → y < 2 ^ w) → (x : ℕ) →
    (single_of w S ≡ Some x) ↔ ((y : ℕ) → IsTrue (S y) ↔ (y ≡ x))
single_of_exact w S fits x = (
  (λ answer. let tells = single_of_tells w S x answer in
      λ y. ((λ member. tells.2 y (fits y member) member), (λ same. ap S same ∙ tells.0))),
  (λ only. single_of_is w S x (fits x ((only x).1 refl)) ((only x).1 refl) (λ y below member. (only y).0 member)),
)

-- ---- what the answers tell

some_same : (x y : ℕ) → ◌≡◌ {A = Option ℕ} (Some x) (Some y) → x ≡ y
some_same x y same = cc

pub least_of_tells : (w : ℕ) (S : ℕ → Bool) (x : ℕ) → least_of w S ≡ Some x → IsLeast (2 ^ w) S x
unfolding least_of
least_of_tells w S x answer = elim (cases_Bool (some_below (2 ^ w) S)) [
  | inl some ↦
      let same = some_same (least_below (2 ^ w) S) x (sym (cond-true (some_below (2 ^ w) S) (Some (least_below (2 ^ w) S)) None some) ∙ answer) in
      subst (λ n. IsLeast (2 ^ w) S n) same (least_found (2 ^ w) S some)
  | inr none ↦ absurd (none_not_some x (sym (cond-false (some_below (2 ^ w) S) (Some (least_below (2 ^ w) S)) None none) ∙ answer))
]

pub least_of_none_tells : (w : ℕ) (S : ℕ → Bool) → least_of w S ≡ None → (x : ℕ) → x < 2 ^ w → S x ≡ false
unfolding least_of
least_of_none_tells w S answer = elim (cases_Bool (some_below (2 ^ w) S)) [
  | inl some ↦ absurd (none_not_some (least_below (2 ^ w) S)
      (sym answer ∙ cond-true (some_below (2 ^ w) S) (Some (least_below (2 ^ w) S)) None some))
  | inr none ↦ none_passes (2 ^ w) S none
]

pub greatest_of_tells : (w : ℕ) (S : ℕ → Bool) (x : ℕ) → greatest_of w S ≡ Some x → IsGreatest (2 ^ w) S x
unfolding greatest_of
greatest_of_tells w S x answer = elim (cases_Bool (some_below (2 ^ w) S)) [
  | inl some ↦
      let same = some_same (greatest_below (2 ^ w) S) x (sym (cond-true (some_below (2 ^ w) S) (Some (greatest_below (2 ^ w) S)) None some) ∙ answer) in
      subst (λ n. IsGreatest (2 ^ w) S n) same (greatest_found (2 ^ w) S some)
  | inr none ↦ absurd (none_not_some x (sym (cond-false (some_below (2 ^ w) S) (Some (greatest_below (2 ^ w) S)) None none) ∙ answer))
]

pub greatest_of_none_tells : (w : ℕ) (S : ℕ → Bool) → greatest_of w S ≡ None → (x : ℕ) → x < 2 ^ w → S x ≡ false
unfolding greatest_of
greatest_of_none_tells w S answer = elim (cases_Bool (some_below (2 ^ w) S)) [
  | inl some ↦ absurd (none_not_some (greatest_below (2 ^ w) S)
      (sym answer ∙ cond-true (some_below (2 ^ w) S) (Some (greatest_below (2 ^ w) S)) None some))
  | inr none ↦ none_passes (2 ^ w) S none
]
