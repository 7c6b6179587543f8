-- Lists of rising numbers: two with the same members are one.
use Rattle.std.proofs.Common.{◌≡◌, ◌<◌, ◌≤◌, ◌+◌, ℕ, zero, suc, Bool, true, false, List, [], ◌∷◌, All, Contains, length, refl, sym, subst, ap₂, arith, add-one, ◌⊎◌, inl, inr}
use Rattle.std.specs.Prelude.{slice_index, slice_index_or, ⊤}
use Rattle.std.specs.List.{range_with_len, filter}
use Rattle.std.specs.List.Sorted.{IsStrictlyIncreasing}
use Rattle.std.proofs.lemmas.Bool.Decides.{eqb_tells}
use Rattle.std.proofs.lemmas.List.Elements.{All-filter, All-contains, filter_passes}
use Rattle.std.proofs.lemmas.List.FromFn.{length-range_with_len, get_or-range_with_len}

-- ---- members of lists

pub contained_first : (x : ℕ) (xs : List ℕ) → Contains (x ∷ xs) x
contained_first x xs = (0, omega arith, refl)

pub contained_rest : (x y : ℕ) (xs : List ℕ) → Contains xs x → Contains (y ∷ xs) x
contained_rest x y xs c = let less = c.1 in (suc c.0, omega arith, c.2)

pub contained_cases : (x y : ℕ) (ys : List ℕ) → Contains (y ∷ ys) x → (y ≡ x) ⊎ Contains ys x
contained_cases x y ys c = at c.0 c.1 c.2
  where
    at : (k : ℕ) → k < length (y ∷ ys) → slice_index_or (y ∷ ys) k x ≡ x → (y ≡ x) ⊎ Contains ys x
    at zero less is = inl is
    at (suc k) less is = inr (k, omega arith, is)

contained_behind : (x y z : ℕ) (ys : List ℕ) → x ≡ y → x + 1 ≤ z → Contains (y ∷ ys) z → Contains ys z
contained_behind x y z ys same above c = elim (contained_cases z y ys c) [
  | inl is ↦ absurd (omega (arith, same, is))
  | inr later ↦ later
]

nothing_contained : {X : Type 0} (x : ℕ) → Contains {X = ℕ} [] x → X
nothing_contained x c = let less = c.1 in absurd (omega arith)

-- ---- numbers that rise

-- the numbers rise, from `low` on
abbrev pub Rises : ℕ → List ℕ → Type 0
Rises low [] = ⊤
Rises low (x ∷ xs) = (low ≤ x) × Rises (x + 1) xs

at_least : (low : ℕ) (xs : List ℕ) → Rises low xs → (x : ℕ) → Contains xs x → low ≤ x
at_least low [] rises x c = nothing_contained x c
at_least low (y ∷ xs) rises x c = elim (contained_cases x y xs c) [
  | inl same ↦ let here : low ≤ y = rises.0 in omega (arith, same)
  | inr later ↦ let here : low ≤ y = rises.0 in let above : y + 1 ≤ x = at_least (y + 1) xs rises.1 x later in omega arith
]

pub same_members : (low other : ℕ) (xs ys : List ℕ) → Rises low xs → Rises other ys → ((x : ℕ) → Contains xs x → Contains ys x) → ((x : ℕ) → Contains ys x → Contains xs x) → xs ≡ ys
same_members low other [] [] first second there back = refl
same_members low other [] (y ∷ ys) first second there back = nothing_contained y (back y (contained_first y ys))
same_members low other (x ∷ xs) [] first second there back = nothing_contained x (there x (contained_first x xs))
same_members low other (x ∷ xs) (y ∷ ys) first second there back =
    let above : y ≤ x = at_least y (y ∷ ys) (omega arith, second.1) x (there x (contained_first x xs)) in
    let below : x ≤ y = at_least x (x ∷ xs) (omega arith, first.1) y (back y (contained_first y ys)) in
    let same : x ≡ y = omega arith in
    let turned : y ≡ x = omega arith in
    ap₂ (λ (a : ℕ) (l : List ℕ). a ∷ l) same (same_members (x + 1) (y + 1) xs ys first.1 second.1
    (λ z c. contained_behind x y z ys same (at_least (x + 1) xs first.1 z c) (there z (contained_rest z x xs c)))
    (λ z c. contained_behind y x z xs turned (at_least (y + 1) ys second.1 z c) (back z (contained_rest z y ys c))))

pub rises_from : (low : ℕ) (xs : List ℕ) → IsStrictlyIncreasing xs → (0 < length xs → low ≤ slice_index xs 0) → Rises low xs
rises_from low [] up first = tt
rises_from low (x ∷ xs) up first = (first (omega arith), rises_from (x + 1) xs later (λ some. let next : x < slice_index xs 0 = up 0 (omega arith) in omega arith))
  where
    later : IsStrictlyIncreasing xs
    later k less =
        let above : slice_index (x ∷ xs) (suc k) < slice_index (x ∷ xs) (suc (suc k)) =
        subst (λ j. slice_index (x ∷ xs) (suc k) < slice_index (x ∷ xs) j) (add-one (suc k)) (up (suc k) (omega arith)) in
        subst (λ j. slice_index xs k < slice_index xs j) (sym (add-one k)) above

-- ---- numbers of a range that pass a test

weaker : (low : ℕ) (xs : List ℕ) → Rises (low + 1) xs → Rises low xs
weaker low [] rises = tt
weaker low (x ∷ xs) rises = (let here : low + 1 ≤ x = rises.0 in omega arith, rises.1)

rises_filter : (p : ℕ → Bool) (a n : ℕ) → Rises a (filter p (range_with_len a n))
rises_filter p a zero = tt
rises_filter p a (suc n) = at (p a) refl (rises_filter p (a + 1) n)
  where
    at : (b : Bool) → p a ≡ b → Rises (a + 1) (filter p (range_with_len (a + 1) n)) → Rises a (filter p (a ∷ range_with_len (a + 1) n))
    at true e later = rw e (omega arith, later)
    at false e later = rw e (weaker a (filter p (range_with_len (a + 1) n)) later)

passes_first : (p : ℕ → Bool) (x : ℕ) (xs : List ℕ) → p x ≡ true → Contains (filter p (x ∷ xs)) x
passes_first p x xs passes = rw passes (contained_first x (filter p xs))

passes_rest : (p : ℕ → Bool) (x y : ℕ) (xs : List ℕ) → Contains (filter p xs) x → Contains (filter p (y ∷ xs)) x
passes_rest p x y xs c = of (p y) refl
  where
    of : (b : Bool) → p y ≡ b → Contains (filter p (y ∷ xs)) x
    of true e = rw e (contained_rest x y (filter p xs) c)
    of false e = rw e c

pub in_range : (p : ℕ → Bool) (x a n : ℕ) → a ≤ x → x < a + n → p x ≡ true → Contains (filter p (range_with_len a n)) x
in_range p x a zero low high passes = absurd (omega arith)
in_range p x a (suc n) low high passes = elim (eqb_tells a x) [
  | inl same ↦
      let e : a ≡ x = same.1 in
      subst (λ k. Contains (filter p (k ∷ range_with_len (a + 1) n)) x) (sym e) (passes_first p x (range_with_len (a + 1) n) passes)
  | inr apart ↦
      let other : a ≡ x → ⊥ = apart.1 in
      passes_rest p x a (range_with_len (a + 1) n) (in_range p x (a + 1) n (omega (arith, other)) (omega arith) passes)
]

pub range_below : (n : ℕ) → All (λ m. m < n) (range_with_len 0 n)
range_below n k d less =
    let count : length (range_with_len 0 n) ≡ n = length-range_with_len 0 n in
    let is = get_or-range_with_len 0 n k d (omega arith) in
    omega (arith, is)

-- rising numbers are those below n that pass a test, if they have just these members
pub filter_is : (p : ℕ → Bool) (n : ℕ) (xs : List ℕ) → IsStrictlyIncreasing xs → ((x : ℕ) → Contains xs x → (p x ≡ true) × (x < n)) → ((x : ℕ) → p x ≡ true → x < n → Contains xs x) →
    xs ≡ filter p (range_with_len 0 n)
filter_is p n xs up each all = same_members 0 0 xs (filter p (range_with_len 0 n)) (rises_from 0 xs up (λ some. omega arith)) (rises_filter p 0 n)
    (λ x c. let passes = each x c in in_range p x 0 n (omega arith) (omega (arith, passes.1)) passes.0)
    (λ x c. all x (All-contains (λ y. p y ≡ true) (filter p (range_with_len 0 n)) x (filter_passes p (range_with_len 0 n)) c)
    (All-contains (λ m. m < n) (filter p (range_with_len 0 n)) x (All-filter p (λ m. m < n) (range_with_len 0 n) (range_below n)) c))
