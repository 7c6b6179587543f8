-- Lists that are made element by element, each by its number: as a loop makes them, and what stands in them.
use Rattle.std.proofs.Common.{◌≡◌, ◌<◌, ◌≤◌, ◌+◌, ℕ, zero, suc, Some, List, [], ◌∷◌, ◌++◌, drop, length, get_or, set, take, refl, sym, ap, ◌∙◌, add-one, arith, append_assoc, append-nil}
use Rattle.std.specs.Prelude.{slice_get}
use Rattle.std.proofs.lemmas.List.{drop_all, drop_more, drop-set-lt, take_more_set}
use Rattle.std.proofs.lemmas.Option.{get_or_from_slice_get, slice_get_within}
use Rattle.vfa_rewrite.specs.Rewritten.{with_numbers}
use Rattle.vfa_rewrite.proofs.Left.{made_at}

-- ---- as a loop makes them

-- what is joined of a list, where F i gives what is joined of a rest whose first element has number i
module _ {A B : Type 0} (one : ℕ → A → List B) (F : ℕ → List A → List B) (step : (i : ℕ) (x : A) (rest : List A) → F i (x ∷ rest) ≡ one i x ++ F (suc i) rest) (xs : List A) where
  pub joined_more : (i : ℕ) (d : A) → i < length xs → (done all : List B) → done ++ F i (drop i xs) ≡ all →
      (done ++ one i (get_or xs i d)) ++ F (i + 1) (drop (i + 1) xs) ≡ all
  joined_more i d less done all before =
      let x = get_or xs i d in
      let here : F i (drop i xs) ≡ one i x ++ F (i + 1) (drop (i + 1) xs) =
      ap (F i) (drop_more xs i d less) ∙ (step i x (drop (i + 1) xs) ∙ ap (λ m. one i x ++ F m (drop (i + 1) xs)) (sym (add-one i))) in
      append_assoc done (one i x) (F (i + 1) (drop (i + 1) xs)) ∙ (ap (λ r. done ++ r) (sym here) ∙ before)

  pub joined_all : ((i : ℕ) → F i [] ≡ []) → (i : ℕ) → length xs ≤ i → (done all : List B) → done ++ F i (drop i xs) ≡ all → done ≡ all
  joined_all none i past done all before =
      sym (append-nil done) ∙ (ap (λ r. done ++ r) (sym (none i)) ∙ (ap (λ rest. done ++ F i rest) (sym (drop_all i xs past)) ∙ before))

module _ {A B : Type 0} (make : ℕ → A → B) (xs : List A) where
  pub numbered_more : (i : ℕ) (d : A) → i < length xs → (done all : List B) → done ++ with_numbers make i (drop i xs) ≡ all →
      (done ++ make i (get_or xs i d) ∷ []) ++ with_numbers make (i + 1) (drop (i + 1) xs) ≡ all
  numbered_more = joined_more (λ i x. make i x ∷ []) (with_numbers make) (λ i x rest. refl) xs

  pub numbered_all : (i : ℕ) → length xs ≤ i → (done all : List B) → done ++ with_numbers make i (drop i xs) ≡ all → done ≡ all
  numbered_all = joined_all (λ i x. make i x ∷ []) (with_numbers make) (λ i x rest. refl) xs (λ i. refl)

-- in place: what is made stands in front of what is still to be made
pub put_more : {A : Type 0} (make : ℕ → A → A) (xs : List A) (i : ℕ) (x : A) → slice_get xs i ≡ Some x → (all : List A) → take i xs ++ with_numbers make i (drop i xs) ≡ all →
    take (i + 1) (set xs i (make i x)) ++ with_numbers make (i + 1) (drop (i + 1) (set xs i (make i x))) ≡ all
put_more make xs i x there all before =
    let less = slice_get_within xs i x there in
    let after : i < i + 1 = omega arith in
    let front = take_more_set xs i (make i x) less in
    let rest = drop-set-lt (i + 1) xs i (make i x) after in
    (λ j. front j ++ with_numbers make (i + 1) (rest j))
    ∙ (ap (λ y. (take i xs ++ make i y ∷ []) ++ with_numbers make (i + 1) (drop (i + 1) xs)) (sym (get_or_from_slice_get xs i x x there))
    ∙ numbered_more make xs i x less (take i xs) all before)

-- ---- what stands in them

pub numbered_at : {A B : Type 0} (make : ℕ → A → B) (xs : List A) (n : ℕ) (x : A) (d : B) → slice_get xs n ≡ Some x → get_or (with_numbers make 0 xs) n d ≡ make n x
numbered_at make xs n x d there = get_or_from_slice_get (with_numbers make 0 xs) n (make n x) d (made_at make xs n x there)

pub numbered_again : {A B C : Type 0} (make : ℕ → A → B) (again : ℕ → B → C) (both : ℕ → A → C) (i : ℕ) (xs : List A) →
    ((n k : ℕ) (x : A) → k ≡ i + n → slice_get xs n ≡ Some x → again k (make k x) ≡ both k x) → with_numbers again i (with_numbers make i xs) ≡ with_numbers both i xs
numbered_again make again both i [] h = refl
numbered_again make again both i (x ∷ xs) h =
    let first = h 0 i x (omega arith) refl in
    let rest = numbered_again make again both (suc i) xs (λ n k y e there. h (suc n) k y (omega (arith, e)) there) in
    λ j. first j ∷ rest j

-- each place below the length has an element
pub record StandsAt {A : Type 0} (xs : List A) (n : ℕ) : Type 0 where
  pub x : A
  pub there : slice_get xs n ≡ Some x

pub stands_below : {A : Type 0} (xs : List A) (n : ℕ) → n < length xs → StandsAt xs n
stands_below [] n below = absurd (omega (arith, below))
stands_below (x ∷ xs) zero below = record { x = x; there = refl }
stands_below (x ∷ xs) (suc n) below = let rest = stands_below xs n (omega (arith, below)) in record { x = rest.x; there = rest.there }
