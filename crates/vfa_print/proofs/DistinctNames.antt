-- Names that stand once, and their places.
use Rattle.std.proofs.Common.{◌≡◌, ◌∙◌, ℕ, suc, ◌+◌, ◌<◌, ◌≤◌, Bool, true, false, not, ◌||◌, cond, nat_lt, List, [], ◌∷◌, ◌++◌, length, map, if◌then◌else◌, Some, None, unwrap_or, bytes_eq, refl, sym, ap, subst, arith, append_assoc, length-append, true≢false, lt-ltb}
use Rattle.std.proofs.lemmas.Slice.Eq.{bytes_eq-Decides}
use Rattle.std.specs.List.{AllByRecursion, IsDistinct, position, position_or_len, range_with_len}
use Rattle.vfa_ir.specs.DefinedNames.{first_repeated}
use Rattle.vfa_ir.specs.Resolution.{place_of}
use Rattle.vfa_ir.specs.Words.{is_among}

pub same_itself : (a : List ℕ) → bytes_eq a a ≡ true
same_itself a = (bytes_eq-Decides a a).1 refl

pub same_text : (a b : List ℕ) → bytes_eq a b ≡ true → a ≡ b
same_text a b e = (bytes_eq-Decides a b).0 e

abbrev pub one_if : Bool → ℕ
one_if true = 1
one_if false = 0

-- how often a name stands among these
abbrev pub occurs : List ℕ → List (List ℕ) → ℕ
occurs n [] = 0
occurs n (x ∷ xs) = one_if (bytes_eq n x) + occurs n xs

pub occurs-append : (n : List ℕ) (xs ys : List (List ℕ)) → occurs n (xs ++ ys) ≡ occurs n xs + occurs n ys
occurs-append n [] ys = omega arith
occurs-append n (x ∷ xs) ys = let again = occurs-append n xs ys in omega arith

pub among_none : (n : List ℕ) (xs : List (List ℕ)) → is_among n xs ≡ false → occurs n xs ≡ 0
among_none n [] h = refl
among_none n (x ∷ xs) h = go (bytes_eq n x) h (among_none n xs)
  where
    go : (b : Bool) → (b || is_among n xs) ≡ false → (is_among n xs ≡ false → occurs n xs ≡ 0) → one_if b + occurs n xs ≡ 0
    go true e again = absurd (true≢false e)
    go false e again = let k = again e in omega arith

-- a name more that does not stand there yet
seen_more : (seen : List (List ℕ)) (name : List ℕ) → is_among name seen ≡ false → ((n : List ℕ) → occurs n seen ≤ 1) → (n : List ℕ) → occurs n (name ∷ seen) ≤ 1
seen_more seen name new once n = go (bytes_eq n name) refl
  where
    go : (b : Bool) → bytes_eq n name ≡ b → one_if b + occurs n seen ≤ 1
    go true e =
        let none : occurs n seen ≡ 0 = subst (λ m. occurs m seen ≡ 0) (sym (same_text n name e)) (among_none name seen new) in
        omega arith
    go false e = let most = once n in omega arith

pub repeats_none :
    (seen xs : List (List ℕ)) → first_repeated seen xs ≡ None → ((n : List ℕ) → occurs n seen ≤ 1) →
    (n : List ℕ) → occurs n seen + occurs n xs ≤ 1
repeats_none seen [] h once n = let most = once n in omega arith
repeats_none seen (name ∷ rest) h once n = go (is_among name seen) refl h (repeats_none (name ∷ seen) rest)
  where
    go :
        (b : Bool) → is_among name seen ≡ b → (if b then Some name else first_repeated (name ∷ seen) rest) ≡ None →
        (first_repeated (name ∷ seen) rest ≡ None → ((m : List ℕ) → occurs m (name ∷ seen) ≤ 1) → (m : List ℕ) → occurs m (name ∷ seen) + occurs m rest ≤ 1) →
        occurs n seen + (one_if (bytes_eq n name) + occurs n rest) ≤ 1
    go true e k again = absurd (cc)
    go false e k again = let most : one_if (bytes_eq n name) + occurs n seen + occurs n rest ≤ 1 = again k (seen_more seen name e once) n in omega arith

none_same : (n : List ℕ) (xs : List (List ℕ)) → occurs n xs ≡ 0 → AllByRecursion (λ y. bytes_eq n y ≡ false) xs
none_same n [] h = tt
none_same n (x ∷ xs) h = (go (bytes_eq n x) h, none_same n xs (omega arith))
  where
    go : (b : Bool) → one_if b + occurs n xs ≡ 0 → b ≡ false
    go true e = absurd (omega arith)
    go false e = refl

pub distinct_once : (xs : List (List ℕ)) → ((n : List ℕ) → occurs n xs ≤ 1) → IsDistinct bytes_eq xs
unfolding IsDistinct
distinct_once [] once = tt
distinct_once (x ∷ xs) once =
    let here : one_if (bytes_eq x x) + occurs x xs ≤ 1 = once x in
    let one : one_if (bytes_eq x x) ≡ 1 = ap one_if (same_itself x) in
    (none_same x xs (omega arith), distinct_once xs (λ n. let most : one_if (bytes_eq n x) + occurs n xs ≤ 1 = once n in omega arith))

-- the place of a name
place_at : (p : List ℕ → Bool) (xs : List (List ℕ)) (i : ℕ) → position_or_len p xs ≡ i → i < length xs → unwrap_or (position p xs) 0 ≡ i
place_at p xs i e h =
    let inside : nat_lt (position_or_len p xs) (length xs) ≡ true = (rw e (lt-ltb i (length xs) h)) in
    rw (inside) e

among_at : (n : List ℕ) (xs : List (List ℕ)) → is_among n xs ≡ true → position_or_len (bytes_eq n) xs < length xs
among_at n [] h = absurd (true≢false (sym h))
among_at n (x ∷ xs) h = go (bytes_eq n x) h (among_at n xs)
  where
    go : (b : Bool) → (b || is_among n xs) ≡ true → (is_among n xs ≡ true → position_or_len (bytes_eq n) xs < length xs) → cond (not b) (1 + position_or_len (bytes_eq n) xs) 0 < length (x ∷ xs)
    go true e again = omega arith
    go false e again = let k = again e in omega arith

pub place_within : (n : List ℕ) (xs : List (List ℕ)) → is_among n xs ≡ true → place_of xs n < length xs
place_within n xs h =
    let inside = among_at n xs h in
    subst (λ i. i < length xs) (sym (place_at (bytes_eq n) xs (position_or_len (bytes_eq n) xs) refl inside)) inside

first_at : (n : List ℕ) (before rest : List (List ℕ)) → occurs n before ≡ 0 → position_or_len (bytes_eq n) (before ++ (n ∷ rest)) ≡ length before
first_at n [] rest h = ap (λ b. cond (not b) (1 + position_or_len (bytes_eq n) rest) 0) (same_itself n)
first_at n (x ∷ before) rest h = go (bytes_eq n x) h (first_at n before rest)
  where
    go :
        (b : Bool) → one_if b + occurs n before ≡ 0 → (occurs n before ≡ 0 → position_or_len (bytes_eq n) (before ++ (n ∷ rest)) ≡ length before) →
        cond (not b) (1 + position_or_len (bytes_eq n) (before ++ (n ∷ rest))) 0 ≡ length (x ∷ before)
    go true e again = absurd (omega arith)
    go false e again = let k = again (omega arith) in omega arith

pub place_after : (n : List ℕ) (before rest : List (List ℕ)) → occurs n before ≡ 0 → place_of (before ++ (n ∷ rest)) n ≡ length before
place_after n before rest h =
    let long : length (before ++ (n ∷ rest)) ≡ length before + suc (length rest) = length-append before (n ∷ rest) in
    place_at (bytes_eq n) (before ++ (n ∷ rest)) (length before) (first_at n before rest h) (omega arith)

-- the places of names that stand once are those in order
pub places_from :
    (all before rest : List (List ℕ)) → all ≡ before ++ rest → ((n : List ℕ) → occurs n all ≤ 1) →
    map (place_of all) rest ≡ range_with_len (length before) (length rest)
places_from all before [] e once = refl
places_from all before (x ∷ rest) e once =
    let most : occurs x all ≤ 1 = once x in
    let parts : occurs x all ≡ occurs x before + (one_if (bytes_eq x x) + occurs x rest) = ap (occurs x) e ∙ occurs-append x before (x ∷ rest) in
    let one : one_if (bytes_eq x x) ≡ 1 = ap one_if (same_itself x) in
    let here : place_of all x ≡ length before = ap (λ z. place_of z x) e ∙ place_after x before rest (omega arith) in
    let again = places_from all (before ++ (x ∷ [])) rest (e ∙ sym (append_assoc before (x ∷ []) rest)) once in
    let long : length (before ++ (x ∷ [])) ≡ length before + 1 = length-append before (x ∷ []) in
    ap (λ i. i ∷ map (place_of all) rest) here ∙ ap (λ r. length before ∷ r) (again ∙ ap (λ i. range_with_len i (length rest)) long)
