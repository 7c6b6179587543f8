-- The place of a number among others, and what stands at the places of a list.
use Rattle.std.proofs.Common.{◌≡◌, ℕ, zero, suc, ◌<◌, Bool, true, false, nat_eq, if◌then◌else◌, List, [], ◌∷◌, length, Some, refl, sym, ap, ◌∙◌, inl, inr, arith}
use Rattle.std.proofs.lemmas.Bool.{eqb-true, eq-eqb}
use Rattle.std.proofs.lemmas.Option.{same_Some}
use Rattle.std.specs.List.{cons_option, slice_get}
use Rattle.vfa_ir.specs.Walks.{is_in}
use Rattle.vfa_mean.specs.Renaming.{place_among, at_places}
use Rattle.vfa_mean.proofs.FreshOperands.Definitions.{in_first, in_rest, or_cases}

test_back : (b c : Bool) → (b ≡ true → c ≡ true) → (c ≡ true → b ≡ true) → b ≡ c
test_back true true f g = refl
test_back true false f g = let e = f refl in cc
test_back false true f g = let e = g refl in cc
test_back false false f g = refl

pub nat_eq_sym : (x y : ℕ) → nat_eq x y ≡ nat_eq y x
nat_eq_sym x y = test_back (nat_eq x y) (nat_eq y x) (λ e. eq-eqb y x (sym (eqb-true x y e))) (λ e. eq-eqb x y (sym (eqb-true y x e)))

-- a number that is another than the first stands behind it
later : (x n : ℕ) (xs : List ℕ) → nat_eq x n ≡ false → is_in n (x ∷ xs) ≡ true → is_in n xs ≡ true
later x n xs e h = elim (or_cases (nat_eq n x) (is_in n xs) h) [
  | inl s ↦ absurd (let same = nat_eq_sym x n in cc)
  | inr t ↦ t
]

-- the place of a number that is there
pub place_found : (xs : List ℕ) (n : ℕ) → is_in n xs ≡ true → slice_get xs (place_among xs n) ≡ Some n
place_found [] n h = cc
place_found (x ∷ xs) n h = by (nat_eq x n) refl (place_found xs n)
  where
    by : (t : Bool) → nat_eq x n ≡ t → (is_in n xs ≡ true → slice_get xs (place_among xs n) ≡ Some n) →
        slice_get (x ∷ xs) (if t then 0 else suc (place_among xs n)) ≡ Some n
    by true e again = ap Some (eqb-true x n e)
    by false e again = again (later x n xs e h)

pub place_below : (xs : List ℕ) (n : ℕ) → is_in n xs ≡ true → place_among xs n < length xs
place_below [] n h = absurd (cc)
place_below (x ∷ xs) n h = by (nat_eq x n) refl (place_below xs n)
  where
    by : (t : Bool) → nat_eq x n ≡ t → (is_in n xs ≡ true → place_among xs n < length xs) →
        (if t then 0 else suc (place_among xs n)) < suc (length xs)
    by true e again = omega arith
    by false e again = let below = again (later x n xs e h) in omega arith

-- the place of one that is not
pub place_past : (xs : List ℕ) (n : ℕ) → is_in n xs ≡ false → place_among xs n ≡ length xs
place_past [] n h = refl
place_past (x ∷ xs) n h = by (nat_eq x n) refl (is_in n xs) refl (place_past xs n)
  where
    by : (t : Bool) → nat_eq x n ≡ t → (u : Bool) → is_in n xs ≡ u → (is_in n xs ≡ false → place_among xs n ≡ length xs) →
        (if t then 0 else suc (place_among xs n)) ≡ suc (length xs)
    by true e u k again = absurd (let s = in_first n x xs (sym (eqb-true x n e)) in cc)
    by false e true k again = absurd (let s = in_rest n x xs k in cc)
    by false e false k again = ap suc (again k)

-- numbers at one place are one number, where one of them is there
pub same_place : (xs : List ℕ) (x y : ℕ) → is_in x xs ≡ true → place_among xs y ≡ place_among xs x → y ≡ x
same_place xs x y h e = by (is_in y xs) refl
  where
    by : (t : Bool) → is_in y xs ≡ t → y ≡ x
    by true k = same_Some y x (sym (place_found xs y k) ∙ ap (slice_get xs) e ∙ place_found xs x h)
    by false k = let past = place_past xs y k in let below = place_below xs x h in absurd (omega arith)

pub place_test : (xs : List ℕ) (x y : ℕ) → is_in x xs ≡ true → nat_eq (place_among xs y) (place_among xs x) ≡ nat_eq y x
place_test xs x y h = test_back (nat_eq (place_among xs y) (place_among xs x)) (nat_eq y x)
    (λ e. eq-eqb y x (same_place xs x y h (eqb-true (place_among xs y) (place_among xs x) e)))
    (λ e. eq-eqb (place_among xs y) (place_among xs x) (ap (place_among xs) (eqb-true y x e)))

-- ---- what stands at places

-- the places are all within the list
abbrev pub AreWithin : ℕ → List ℕ → Type 0
AreWithin count places = (n : ℕ) → is_in n places ≡ true → n < count

pub rest_within : (count x : ℕ) (places : List ℕ) → AreWithin count (x ∷ places) → AreWithin count places
rest_within count x places h n k = h n (in_rest n x places k)

pub stands_within : {X : Type 0} (xs : List X) (i : ℕ) → i < length xs → (x : X) × (slice_get xs i ≡ Some x)
stands_within [] i h = absurd (omega arith)
stands_within (x ∷ xs) zero h = (x, refl)
stands_within (x ∷ xs) (suc i) h = stands_within xs i (omega arith)

pub at_first : {X : Type 0} (xs : List X) (n : ℕ) (places : List ℕ) (x : X) → slice_get xs n ≡ Some x → at_places xs (n ∷ places) ≡ x ∷ at_places xs places
at_first xs n places x e = ap (λ o. cons_option o (at_places xs places)) e

pub length-at_places : {X : Type 0} (xs : List X) (places : List ℕ) → AreWithin (length xs) places → length (at_places xs places) ≡ length places
length-at_places xs [] h = refl
length-at_places xs (n ∷ places) h =
    let there = stands_within xs n (h n (in_first n n places refl)) in
    ap length (at_first xs n places there.0 there.1) ∙ ap suc (length-at_places xs places (rest_within (length xs) n places h))

-- the element of a number stands at the place of the number
pub at_its_place : {X : Type 0} (xs : List X) (places : List ℕ) → AreWithin (length xs) places → (n : ℕ) → is_in n places ≡ true →
    slice_get (at_places xs places) (place_among places n) ≡ slice_get xs n
at_its_place xs [] h n k = absurd (cc)
at_its_place {X} xs (m ∷ places) h n k =
    let there = stands_within xs m (h m (in_first m m places refl)) in
    ap (λ ys. slice_get ys (place_among (m ∷ places) n)) (at_first xs m places there.0 there.1)
    ∙ by there.0 there.1 (nat_eq m n) refl (at_its_place xs places (rest_within (length xs) m places h) n)
  where
    by : (x : X) → slice_get xs m ≡ Some x → (t : Bool) → nat_eq m n ≡ t →
        (is_in n places ≡ true → slice_get (at_places xs places) (place_among places n) ≡ slice_get xs n) →
        slice_get (x ∷ at_places xs places) (if t then 0 else suc (place_among places n)) ≡ slice_get xs n
    by x e true s again = sym e ∙ ap (slice_get xs) (eqb-true m n s)
    by x e false s again = again (later m n places s k)
