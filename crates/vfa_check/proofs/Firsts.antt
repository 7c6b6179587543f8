-- The first element of which something does not hold: in lists that are put together, and in a loop.
use Rattle.std.proofs.Common.{◌≡◌, ℕ, zero, suc, ◌+◌, ◌<◌, List, [], ◌∷◌, ◌++◌, map, length, take, get_or, All, IsSomeAnd, Some, refl, sym, subst, arith, zero-add}
use Rattle.std.proofs.lemmas.List.Elements.{All-cons, All-head, All-nil, All-tail}
use Rattle.std.proofs.lemmas.Option.{slice_get_read}
use Rattle.std.specs.List.{slice_get}
use Rattle.vfa_check.specs.First.{FailsFirst}

pub fails_later : {A : Type 0} (P : A → Type 0) (x : A) (xs : List A) (n : ℕ) → P x → FailsFirst P xs n → FailsFirst P (x ∷ xs) (suc n)
fails_later P x xs n h r = record { before = All-cons P x (take n xs) h r.before; here = r.here }

pub fails_behind : {A : Type 0} (P : A → Type 0) (x : A) (xs : List A) (n : ℕ) → FailsFirst P (x ∷ xs) (suc n) → FailsFirst P xs n
fails_behind P x xs n r = record { before = All-tail P x (take n xs) r.before; here = r.here }

-- in the front of a list
pub fails_left : {A : Type 0} (P : A → Type 0) (xs ys : List A) (n : ℕ) → FailsFirst P xs n → FailsFirst P (xs ++ ys) n
fails_left P [] ys n r = absurd (r.here)
fails_left P (x ∷ xs) ys zero r = record { before = r.before; here = r.here }
fails_left P (x ∷ xs) ys (suc n) r =
    fails_later P x (xs ++ ys) n (All-head P x (take n xs) r.before) (fails_left P xs ys n (fails_behind P x xs n r))

-- in the back of a list, where it holds of all in the front
pub fails_right : {A : Type 0} (P : A → Type 0) (xs ys : List A) (n : ℕ) → All P xs → FailsFirst P ys n → FailsFirst P (xs ++ ys) (length xs + n)
fails_right P [] ys n h r = subst (FailsFirst P ys) (sym (zero-add n)) r
fails_right P (x ∷ xs) ys n h r =
    let place : suc (length xs + n) ≡ suc (length xs) + n = omega arith in
    subst (FailsFirst P (x ∷ (xs ++ ys))) place
    (fails_later P x (xs ++ ys) (length xs + n) (All-head P x xs h) (fails_right P xs ys n (All-tail P x xs h) r))

pub fails_map : {A B : Type 0} (P : B → Type 0) (f : A → B) (xs : List A) (n : ℕ) → FailsFirst (λ x. P (f x)) xs n → FailsFirst P (map f xs) n
fails_map P f [] n r = absurd (r.here)
fails_map P f (x ∷ xs) zero r = record { before = All-nil P; here = r.here }
fails_map P f (x ∷ xs) (suc n) r =
    fails_later P (f x) (map f xs) n (All-head (λ y. P (f y)) x (take n xs) r.before) (fails_map P f xs n (fails_behind (λ y. P (f y)) x xs n r))

-- an element of which it doesn't hold, where it holds of all before
pub fails_here : {A : Type 0} (P : A → Type 0) (xs : List A) (n : ℕ) (x : A) → n < length xs → x ≡ get_or xs n x →
    All P (take n xs) → (P x → ⊥) → FailsFirst P xs n
fails_here P xs n x within is before here =
    let found : slice_get xs n ≡ Some x = slice_get_read xs (length xs) n x refl within is in
    record { before = before; here = subst (λ o. IsSomeAnd o (λ y. P y → ⊥)) (sym found) here }
