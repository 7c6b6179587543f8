-- Elements of lists that are made with their numbers, and of longer lists.
use Rattle.std.proofs.Common.{◌≡◌, ℕ, zero, suc, ◌+◌, ◌<◌, List, [], ◌∷◌, ◌++◌, Some, slice_get, length, refl, sym, ap, ◌∙◌, arith}
use Rattle.std.proofs.lemmas.Option.{same_Some}
use Rattle.vfa_rewrite.specs.Rewritten.{with_numbers}

get_from : {A B : Type 0} (make : ℕ → A → B) (i : ℕ) (xs : List A) (n k : ℕ) (x : A) → slice_get xs n ≡ Some x → k ≡ i + n →
    slice_get (with_numbers make i xs) n ≡ Some (make k x)
get_from make i [] n k x h e = absurd (cc)
get_from make i (y ∷ xs) zero k x h e =
    let same : y ≡ x = same_Some y x h in
    let here : k ≡ i = omega (arith, e) in
    cc
get_from make i (y ∷ xs) (suc n) k x h e = get_from make (suc i) xs n k x h (omega (arith, e))

pub made_at : {A B : Type 0} (make : ℕ → A → B) (xs : List A) (n : ℕ) (x : A) → slice_get xs n ≡ Some x →
    slice_get (with_numbers make 0 xs) n ≡ Some (make n x)
made_at make xs n x h = get_from make 0 xs n n x h (omega arith)

-- the elements from place n on
abbrev pub AreFrom : {A : Type 0} → List A → List A → ℕ → Type 0
AreFrom {A} all rest n = (j : ℕ) (x : A) → slice_get rest j ≡ Some x → slice_get all (n + j) ≡ Some x

pub head_from : {A : Type 0} (all : List A) (x : A) (rest : List A) (n : ℕ) → AreFrom all (x ∷ rest) n → slice_get all n ≡ Some x
head_from all x rest n from = let z : n + 0 ≡ n = omega arith in sym (ap (slice_get all) z) ∙ from 0 x refl

pub rest_from : {A : Type 0} (all : List A) (x : A) (rest : List A) (n : ℕ) → AreFrom all (x ∷ rest) n → AreFrom all rest (suc n)
rest_from all x rest n from j y e = let z : suc n + j ≡ n + suc j = omega arith in ap (slice_get all) z ∙ from (suc j) y e

pub all_from : {A : Type 0} (all : List A) → AreFrom all all 0
all_from all j x e = let z : 0 + j ≡ j = omega arith in ap (slice_get all) z ∙ e

-- what stands in a list stands there with more behind it
pub get_before : {A : Type 0} (xs ys : List A) (n : ℕ) → n < length xs → slice_get (xs ++ ys) n ≡ slice_get xs n
get_before [] ys n h = absurd (omega (arith, h))
get_before (x ∷ xs) ys zero h = refl
get_before (x ∷ xs) ys (suc n) h = get_before xs ys n (omega (arith, h))

-- and what is put behind it stands behind it
pub get_behind : {A : Type 0} (xs ys : List A) (n k : ℕ) → k ≡ length xs + n → slice_get (xs ++ ys) k ≡ slice_get ys n
get_behind [] ys n k e = let same : k ≡ n = omega (arith, e) in ap (slice_get ys) same
get_behind (x ∷ xs) ys n zero e = absurd (omega (arith, e))
get_behind (x ∷ xs) ys n (suc k) e = get_behind xs ys n k (omega (arith, e))
