-- The names of what is kept: each is one of the function's, and none stands twice.
use Rattle.std.proofs.Common.{◌≡◌, ℕ, zero, suc, ◌<◌, Bool, true, false, nat_eq, List, [], ◌∷◌, ◌++◌, Option, Some, None, bytes_eq, refl, sym, ap, ◌∙◌, subst, inl, inr, arith}
use Rattle.std.proofs.lemmas.Bool.{cases_lt, eq-eqb}
use Rattle.std.proofs.lemmas.Slice.Eq.{bytes_eq-Decides}
use Rattle.std.proofs.lemmas.Option.{same_Some}
use Rattle.std.specs.List.{AllByRecursion, IsDistinct, cons_option, filter_map, slice_get}
use Rattle.vfa_mean.specs.Renaming.{at_places}

abbrev Named : Type 0 → Type 0
Named X = X → Option (List ℕ)

-- what holds of each name holds of that of a place
name_at : {X : Type 0} (name : Named X) (P : List ℕ → Type 0) (xs : List X) → AllByRecursion P (filter_map name xs) →
    (i : ℕ) (x : X) (n : List ℕ) → slice_get xs i ≡ Some x → name x ≡ Some n → P n
name_at name P [] all i x n is named = absurd (cc)
name_at {X} name P (y ∷ xs) all zero x n is named =
    let here : name y ≡ Some n = ap name (same_Some y x is) ∙ named in
    (subst (λ o. AllByRecursion P (cons_option o (filter_map name xs))) here all).0
name_at {X} name P (y ∷ xs) all (suc i) x n is named = behind (name y) all (λ rest. name_at name P xs rest i x n is named)
  where
    behind : (o : Option (List ℕ)) → AllByRecursion P (cons_option o (filter_map name xs)) → (AllByRecursion P (filter_map name xs) → P n) → P n
    behind None rest again = again rest
    behind (Some m) rest again = again rest.1

-- what holds of the name of each place holds of the names of the places
pub names_at : {X : Type 0} (name : Named X) (P : List ℕ → Type 0) (xs : List X) → AllByRecursion P (filter_map name xs) → (places : List ℕ) →
    AllByRecursion P (filter_map name (at_places xs places))
names_at name P xs all [] = tt
names_at {X} name P xs all (i ∷ places) = by (slice_get xs i) refl (names_at name P xs all places)
  where
    named : (x : X) → slice_get xs i ≡ Some x → (o : Option (List ℕ)) → name x ≡ o → AllByRecursion P (filter_map name (at_places xs places)) →
        AllByRecursion P (cons_option o (filter_map name (at_places xs places)))
    named x is None e rest = rest
    named x is (Some n) e rest = (name_at name P xs all i x n is e, rest)

    by : (o : Option X) → slice_get xs i ≡ o → AllByRecursion P (filter_map name (at_places xs places)) →
        AllByRecursion P (filter_map name (cons_option o (at_places xs places)))
    by None e rest = rest
    by (Some x) e rest = named x e (name x) refl rest

unequal_back : (m n : List ℕ) → bytes_eq m n ≡ false → bytes_eq n m ≡ false
unequal_back m n e = by (bytes_eq n m) refl
  where
    by : (t : Bool) → bytes_eq n m ≡ t → bytes_eq n m ≡ false
    by true s = absurd (let same : n ≡ m = (bytes_eq-Decides n m).0 s in let back : bytes_eq m n ≡ true = (bytes_eq-Decides m n).1 (sym same) in cc)
    by false s = s

-- the names of an earlier and a later place differ
later_differs : {X : Type 0} (name : Named X) (xs : List X) → IsDistinct bytes_eq (filter_map name xs) → (i j : ℕ) (x y : X) (m n : List ℕ) → i < j →
    slice_get xs i ≡ Some x → slice_get xs j ≡ Some y → name x ≡ Some m → name y ≡ Some n → bytes_eq m n ≡ false
unfolding IsDistinct
later_differs name [] d i j x y m n l at_i at_j named_x named_y = absurd (cc)
later_differs name (z ∷ xs) d i zero x y m n l at_i at_j named_x named_y = absurd (omega arith)
later_differs {X} name (z ∷ xs) d zero (suc j) x y m n l at_i at_j named_x named_y =
    let here : name z ≡ Some m = ap name (same_Some z x at_i) ∙ named_x in
    let first = subst (λ o. IsDistinct bytes_eq (cons_option o (filter_map name xs))) here d in
    name_at name (λ k. bytes_eq m k ≡ false) xs first.0 j y n at_j named_y
later_differs {X} name (z ∷ xs) d (suc i) (suc j) x y m n l at_i at_j named_x named_y =
    behind (name z) d (λ rest. later_differs name xs rest i j x y m n (omega arith) at_i at_j named_x named_y)
  where
    behind : (o : Option (List ℕ)) → IsDistinct bytes_eq (cons_option o (filter_map name xs)) →
        (IsDistinct bytes_eq (filter_map name xs) → bytes_eq m n ≡ false) → bytes_eq m n ≡ false
    behind None rest again = again rest
    behind (Some k) rest again = again rest.1

differ : {X : Type 0} (name : Named X) (xs : List X) → IsDistinct bytes_eq (filter_map name xs) → (i j : ℕ) (x y : X) (m n : List ℕ) → nat_eq i j ≡ false →
    slice_get xs i ≡ Some x → slice_get xs j ≡ Some y → name x ≡ Some m → name y ≡ Some n → bytes_eq m n ≡ false
differ name xs d i j x y m n other at_i at_j named_x named_y = elim (cases_lt i j) [
  | inl l ↦ later_differs name xs d i j x y m n l at_i at_j named_x named_y
  | inr l ↦ elim (cases_lt j i) [
    | inl k ↦ unequal_back n m (later_differs name xs d j i y x n m k at_j at_i named_y named_x)
    | inr k ↦ absurd (let same = eq-eqb i j (omega arith) in cc)
  ]
]

-- names of other places than this one
names_differ : {X : Type 0} (name : Named X) (xs : List X) → IsDistinct bytes_eq (filter_map name xs) → (i : ℕ) (x : X) (m : List ℕ) →
    slice_get xs i ≡ Some x → name x ≡ Some m → (places : List ℕ) → AllByRecursion (λ j. nat_eq i j ≡ false) places →
    AllByRecursion (λ n. bytes_eq m n ≡ false) (filter_map name (at_places xs places))
names_differ name xs d i x m at_i named_x [] others = tt
names_differ {X} name xs d i x m at_i named_x (j ∷ places) others =
    by (slice_get xs j) refl (names_differ name xs d i x m at_i named_x places others.1)
  where
    named : (y : X) → slice_get xs j ≡ Some y → (o : Option (List ℕ)) → name y ≡ o →
        AllByRecursion (λ n. bytes_eq m n ≡ false) (filter_map name (at_places xs places)) →
        AllByRecursion (λ n. bytes_eq m n ≡ false) (cons_option o (filter_map name (at_places xs places)))
    named y at_j None e rest = rest
    named y at_j (Some n) e rest = (differ name xs d i j x y m n others.0 at_i at_j named_x e, rest)

    by : (o : Option X) → slice_get xs j ≡ o → AllByRecursion (λ n. bytes_eq m n ≡ false) (filter_map name (at_places xs places)) →
        AllByRecursion (λ n. bytes_eq m n ≡ false) (filter_map name (cons_option o (at_places xs places)))
    by None e rest = rest
    by (Some y) e rest = named y e (name y) refl rest

-- the names of distinct places are distinct
pub names_distinct : {X : Type 0} (name : Named X) (xs : List X) → IsDistinct bytes_eq (filter_map name xs) → (places : List ℕ) → IsDistinct nat_eq places →
    IsDistinct bytes_eq (filter_map name (at_places xs places))
unfolding IsDistinct
names_distinct name xs d [] once = tt
names_distinct {X} name xs d (i ∷ places) once = by (slice_get xs i) refl (names_distinct name xs d places once.1)
  where
    named : (x : X) → slice_get xs i ≡ Some x → (o : Option (List ℕ)) → name x ≡ o → IsDistinct bytes_eq (filter_map name (at_places xs places)) →
        IsDistinct bytes_eq (cons_option o (filter_map name (at_places xs places)))
    named x at_i None e rest = rest
    named x at_i (Some m) e rest = (names_differ name xs d i x m at_i e places once.0, rest)

    by : (o : Option X) → slice_get xs i ≡ o → IsDistinct bytes_eq (filter_map name (at_places xs places)) →
        IsDistinct bytes_eq (filter_map name (cons_option o (at_places xs places)))
    by None e rest = rest
    by (Some x) e rest = named x e (name x) refl rest

-- ---- two lists of names

part_left : {X : Type 0} (P : X → Type 0) (xs ys : List X) → AllByRecursion P (xs ++ ys) → AllByRecursion P xs
part_left P [] ys h = tt
part_left P (x ∷ xs) ys h = (h.0, part_left P xs ys h.1)

part_right : {X : Type 0} (P : X → Type 0) (xs ys : List X) → AllByRecursion P (xs ++ ys) → AllByRecursion P ys
part_right P [] ys h = h
part_right P (x ∷ xs) ys h = part_right P xs ys h.1

pub both_parts : {X : Type 0} (P : X → Type 0) (xs ys : List X) → AllByRecursion P xs → AllByRecursion P ys → AllByRecursion P (xs ++ ys)
both_parts P [] ys h k = k
both_parts P (x ∷ xs) ys h k = (h.0, both_parts P xs ys h.1 k)

abbrev AreApart : List (List ℕ) → List (List ℕ) → Type 0
AreApart xs ys = AllByRecursion (λ x. AllByRecursion (λ y. bytes_eq x y ≡ false) ys) xs

distinct_left : (xs ys : List (List ℕ)) → IsDistinct bytes_eq (xs ++ ys) → IsDistinct bytes_eq xs
unfolding IsDistinct
distinct_left [] ys d = tt
distinct_left (x ∷ xs) ys d = (part_left (λ y. bytes_eq x y ≡ false) xs ys d.0, distinct_left xs ys d.1)

distinct_right : (xs ys : List (List ℕ)) → IsDistinct bytes_eq (xs ++ ys) → IsDistinct bytes_eq ys
unfolding IsDistinct
distinct_right [] ys d = d
distinct_right (x ∷ xs) ys d = distinct_right xs ys d.1

distinct_apart : (xs ys : List (List ℕ)) → IsDistinct bytes_eq (xs ++ ys) → AreApart xs ys
unfolding IsDistinct
distinct_apart [] ys d = tt
distinct_apart (x ∷ xs) ys d = (part_right (λ y. bytes_eq x y ≡ false) xs ys d.0, distinct_apart xs ys d.1)

distinct_both : (xs ys : List (List ℕ)) → IsDistinct bytes_eq xs → IsDistinct bytes_eq ys → AreApart xs ys → IsDistinct bytes_eq (xs ++ ys)
unfolding IsDistinct
distinct_both [] ys d e a = e
distinct_both (x ∷ xs) ys d e a = (both_parts (λ y. bytes_eq x y ≡ false) xs ys d.0 a.0, distinct_both xs ys d.1 e a.1)

each_weaker : {X : Type 0} (P Q : X → Type 0) → ((x : X) → P x → Q x) → (xs : List X) → AllByRecursion P xs → AllByRecursion Q xs
each_weaker P Q f [] h = tt
each_weaker P Q f (x ∷ xs) h = (f x h.0, each_weaker P Q f xs h.1)

pub kept_distinct : {X Y : Type 0} (name : Named X) (name' : Named Y) (xs : List X) (ys : List Y) (places places' : List ℕ) →
    IsDistinct nat_eq places → IsDistinct nat_eq places' → IsDistinct bytes_eq (filter_map name xs ++ filter_map name' ys) →
    IsDistinct bytes_eq (filter_map name (at_places xs places) ++ filter_map name' (at_places ys places'))
kept_distinct name name' xs ys places places' once once' d =
    let first : List (List ℕ) = filter_map name xs in
    let second : List (List ℕ) = filter_map name' ys in
    distinct_both (filter_map name (at_places xs places)) (filter_map name' (at_places ys places'))
    (names_distinct name xs (distinct_left first second d) places once)
    (names_distinct name' ys (distinct_right first second d) places' once')
    (names_at name (λ x. AllByRecursion (λ y. bytes_eq x y ≡ false) (filter_map name' (at_places ys places'))) xs
    (each_weaker (λ x. AllByRecursion (λ y. bytes_eq x y ≡ false) second)
    (λ x. AllByRecursion (λ y. bytes_eq x y ≡ false) (filter_map name' (at_places ys places')))
    (λ x h. names_at name' (λ y. bytes_eq x y ≡ false) ys h places') first (distinct_apart first second d))
    places)

pub kept_all : {X Y : Type 0} (P : List ℕ → Type 0) (name : Named X) (name' : Named Y) (xs : List X) (ys : List Y) (places places' : List ℕ) →
    AllByRecursion P (filter_map name xs ++ filter_map name' ys) →
    AllByRecursion P (filter_map name (at_places xs places) ++ filter_map name' (at_places ys places'))
kept_all P name name' xs ys places places' h =
    both_parts P (filter_map name (at_places xs places)) (filter_map name' (at_places ys places'))
    (names_at name P xs (part_left P (filter_map name xs) (filter_map name' ys) h) places)
    (names_at name' P ys (part_right P (filter_map name xs) (filter_map name' ys) h) places')
