-- The search for what some numbers lead to.
use Rattle.std.proofs.Common.{◌≡◌, ◌≢◌, ◌<◌, ℕ, zero, suc, ◌+◌, ◌*◌, Bool, true, false, List, [], ◌∷◌, ◌++◌, length, get_or, set, take, replicate, ap, subst, arith, sym, refl, ◌∙◌, inl, inr, ◌⊎◌, length-set, length-append}
use Rattle.std.proofs.lemmas.List.{get_or-set_other, get_or-set_same, get_or_default, length-replicate, take_more}
use Rattle.std.proofs.lemmas.Bool.{cases_eq}
use Rattle.vfa_ir.specs.Words.{is_in}
use Rattle.vfa_mean.proofs.FreshOperands.Definitions.{in_left, in_right, in_cases, first_or_rest, in_first}
use Rattle.vfa_demand.specs.Reach.{IsLedTo, at_first, by_step, unmarked, AreTaken}
use Rattle.vfa_mean.specs.Kept.{is_marked}

-- ---- a number that is marked

pub nothing_taken : (marks : List Bool) (ahead : List ℕ) → AreTaken [] marks marks ahead ahead
nothing_taken marks ahead = record {
  whole = refl;
  room = omega arith;
  kept = λ v t. t;
  taken = λ v t. absurd (cc);
  marked = λ v t. inl t;
  put = λ v t. inl t;
  still = λ v t. t;
  from = λ v t. inl t;
}

pub only : (v n : ℕ) → is_in v (n ∷ []) ≡ true → v ≡ n
only v n t = elim (first_or_rest v n [] t) [ inl e ↦ e | inr u ↦ absurd (cc) ]

pub taken_before : (n : ℕ) (marks : List Bool) (ahead : List ℕ) → is_marked marks n ≡ true → AreTaken (n ∷ []) marks marks ahead ahead
taken_before n marks ahead is = record {
  whole = refl;
  room = omega arith;
  kept = λ v t. t;
  taken = λ v t. subst (λ k. is_marked marks k ≡ true) (sym (only v n t)) is;
  marked = λ v t. inl t;
  put = λ v t. inl t;
  still = λ v t. t;
  from = λ v t. inl t;
}

less_unmarked : (marks : List Bool) (n : ℕ) → n < length marks → is_marked marks n ≡ false → unmarked (set marks n true) + 1 ≡ unmarked marks
less_unmarked [] n l is = absurd (omega (arith, l))
less_unmarked (true ∷ marks) zero l is = absurd (cc)
less_unmarked (false ∷ marks) zero l is = refl
less_unmarked (true ∷ marks) (suc n) l is = less_unmarked marks n (omega (arith, l)) is
less_unmarked (false ∷ marks) (suc n) l is = ap (λ k. k + 1) (less_unmarked marks n (omega (arith, l)) is)

same_or_other : (v n : ℕ) → (v ≡ n) ⊎ (v ≢ n)
same_or_other v n = cases_eq v n

pub taken_now : (n : ℕ) (marks : List Bool) (ahead : List ℕ) → n < length marks → is_marked marks n ≡ false →
    AreTaken (n ∷ []) marks (set marks n true) ahead (ahead ++ (n ∷ []))
taken_now n marks ahead l is = record {
  whole = length-set marks n true;
  room = omega (arith, less_unmarked marks n l is, length-append ahead (n ∷ []));
  kept = λ v t. kept v t (same_or_other v n);
  taken = λ v t. subst (λ k. is_marked (set marks n true) k ≡ true) (sym (only v n t)) here;
  marked = λ v t. marked v t (same_or_other v n);
  put = λ v t. put v t (same_or_other v n);
  still = λ v t. in_left v ahead (n ∷ []) t;
  from = λ v t. from v (in_cases v ahead (n ∷ []) t);
}
  where
    here : is_marked (set marks n true) n ≡ true
    here = get_or-set_same marks n true false l

    kept : (v : ℕ) → is_marked marks v ≡ true → (v ≡ n) ⊎ (v ≢ n) → is_marked (set marks n true) v ≡ true
    kept v t (inl e) = subst (λ k. is_marked (set marks n true) k ≡ true) (sym e) here
    kept v t (inr other) = get_or-set_other marks n v true false other ∙ t

    marked : (v : ℕ) → is_marked (set marks n true) v ≡ true → (v ≡ n) ⊎ (v ≢ n) → (is_marked marks v ≡ true) ⊎ (is_in v (n ∷ []) ≡ true)
    marked v t (inl e) = inr (in_first v n [] e)
    marked v t (inr other) = inl (sym (get_or-set_other marks n v true false other) ∙ t)

    put : (v : ℕ) → is_marked (set marks n true) v ≡ true → (v ≡ n) ⊎ (v ≢ n) → (is_marked marks v ≡ true) ⊎ (is_in v (ahead ++ (n ∷ [])) ≡ true)
    put v t (inl e) = inr (in_right v ahead (n ∷ []) (in_first v n [] e))
    put v t (inr other) = inl (sym (get_or-set_other marks n v true false other) ∙ t)

    from : (v : ℕ) → (is_in v ahead ≡ true) ⊎ (is_in v (n ∷ []) ≡ true) → (is_in v ahead ≡ true) ⊎ (is_marked (set marks n true) v ≡ true)
    from v (inl t) = inl t
    from v (inr t) = inr (subst (λ k. is_marked (set marks n true) k ≡ true) (sym (only v n t)) here)

-- ---- some numbers and then others

pub taken_then : (xs ys : List ℕ) (m0 m1 m2 : List Bool) (a0 a1 a2 : List ℕ) → AreTaken xs m0 m1 a0 a1 → AreTaken ys m1 m2 a1 a2 → AreTaken (xs ++ ys) m0 m2 a0 a2
taken_then xs ys m0 m1 m2 a0 a1 a2 one two = record {
  whole = two.whole ∙ one.whole;
  room = omega (arith, one.room, two.room);
  kept = λ v t. two.kept v (one.kept v t);
  taken = λ v t. elim (in_cases v xs ys t) [ inl u ↦ two.kept v (one.taken v u) | inr u ↦ two.taken v u ];
  marked = λ v t. marked v (two.marked v t);
  put = λ v t. put v (two.put v t);
  still = λ v t. two.still v (one.still v t);
  from = λ v t. from v (two.from v t);
}
  where
    first : (v : ℕ) → (is_marked m0 v ≡ true) ⊎ (is_in v xs ≡ true) → (is_marked m0 v ≡ true) ⊎ (is_in v (xs ++ ys) ≡ true)
    first v (inl t) = inl t
    first v (inr t) = inr (in_left v xs ys t)

    marked : (v : ℕ) → (is_marked m1 v ≡ true) ⊎ (is_in v ys ≡ true) → (is_marked m0 v ≡ true) ⊎ (is_in v (xs ++ ys) ≡ true)
    marked v (inl t) = first v (one.marked v t)
    marked v (inr t) = inr (in_right v xs ys t)

    ahead : (v : ℕ) → (is_marked m0 v ≡ true) ⊎ (is_in v a1 ≡ true) → (is_marked m0 v ≡ true) ⊎ (is_in v a2 ≡ true)
    ahead v (inl t) = inl t
    ahead v (inr t) = inr (two.still v t)

    put : (v : ℕ) → (is_marked m1 v ≡ true) ⊎ (is_in v a2 ≡ true) → (is_marked m0 v ≡ true) ⊎ (is_in v a2 ≡ true)
    put v (inl t) = ahead v (one.put v t)
    put v (inr t) = inr t

    back : (v : ℕ) → (is_in v a0 ≡ true) ⊎ (is_marked m1 v ≡ true) → (is_in v a0 ≡ true) ⊎ (is_marked m2 v ≡ true)
    back v (inl t) = inl t
    back v (inr t) = inr (two.kept v t)

    from : (v : ℕ) → (is_in v a1 ≡ true) ⊎ (is_marked m2 v ≡ true) → (is_in v a0 ≡ true) ⊎ (is_marked m2 v ≡ true)
    from v (inl t) = back v (one.from v t)
    from v (inr t) = inr t

pub taken_more : (xs : List ℕ) (i : ℕ) (m0 m1 m2 : List Bool) (a0 a1 a2 : List ℕ) → i < length xs → AreTaken (take i xs) m0 m1 a0 a1 →
    AreTaken (get_or xs i 0 ∷ []) m1 m2 a1 a2 → AreTaken (take (i + 1) xs) m0 m2 a0 a2
taken_more xs i m0 m1 m2 a0 a1 a2 l one two =
    subst (λ ys. AreTaken ys m0 m2 a0 a2) (sym (take_more xs i 0 l)) (taken_then (take i xs) (get_or xs i 0 ∷ []) m0 m1 m2 a0 a1 a2 one two)

-- ---- the search

-- The marks and the numbers ahead, whose steps are still to be taken: all first ones are marked; what is marked is led to;
-- what a marked one leads to is marked, but for those ahead.
pub record IsSearch (first : List ℕ) (leads : List (List ℕ)) (marks : List Bool) (ahead : List ℕ) : Type 0 where
  pub whole : length marks ≡ length leads
  pub begun : (v : ℕ) → is_in v first ≡ true → is_marked marks v ≡ true
  pub sound : (v : ℕ) → is_marked marks v ≡ true → IsLedTo first leads v
  pub closed : (v : ℕ) → is_marked marks v ≡ true → (is_in v ahead ≡ true) ⊎ ((w : ℕ) → is_in w (get_or leads v []) ≡ true → is_marked marks w ≡ true)
  pub met : (v : ℕ) → is_in v ahead ≡ true → is_marked marks v ≡ true

none_marked : (n v : ℕ) {X : Type 0} → is_marked (replicate n false) v ≡ true → X
none_marked zero v t = absurd (cc)
none_marked (suc n) zero t = absurd (cc)
none_marked (suc n) (suc v) t = none_marked n v t

pub search_begins : (first : List ℕ) (leads : List (List ℕ)) (m0 m1 : List Bool) (a0 a1 : List ℕ) → m0 ≡ replicate (length leads) false → a0 ≡ [] →
    AreTaken first m0 m1 a0 a1 → IsSearch first leads m1 a1
search_begins first leads m0 m1 a0 a1 no_marks none step = record {
  whole = step.whole ∙ ap length no_marks ∙ length-replicate (length leads) false;
  begun = step.taken;
  sound = λ v t. elim (step.marked v t) [ inl u ↦ fresh v u | inr u ↦ at_first v u ];
  closed = λ v t. elim (step.put v t) [ inl u ↦ fresh v u | inr u ↦ inl u ];
  met = λ v t. elim (step.from v t) [ inl u ↦ nowhere v (subst (λ a. is_in v a ≡ true) none u) | inr u ↦ u ];
}
  where
    fresh : (v : ℕ) {X : Type 0} → is_marked m0 v ≡ true → X
    fresh v u = none_marked (length leads) v (subst (λ m. is_marked m v ≡ true) no_marks u)

    nowhere : (v : ℕ) {X : Type 0} → is_in v [] ≡ true → X
    nowhere v u = absurd (cc)

pub search_goes_on : (first : List ℕ) (leads : List (List ℕ)) (m0 m1 : List Bool) (a a0 a1 names : List ℕ) (n : ℕ) → a ≡ a0 ++ (n ∷ []) → names ≡ get_or leads n [] →
    IsSearch first leads m0 a → AreTaken names m0 m1 a0 a1 → IsSearch first leads m1 a1
search_goes_on first leads m0 m1 a a0 a1 names n split led was step = record {
  whole = step.whole ∙ was.whole;
  begun = λ v t. step.kept v (was.begun v t);
  sound = λ v t. elim (step.marked v t) [
    | inl u ↦ was.sound v u
    | inr u ↦ by_step n v (was.sound n (was.met n here)) (subst (λ l. is_in v l ≡ true) led u)
  ];
  closed = λ v t. elim (step.put v t) [ inl u ↦ old v (was.closed v u) | inr u ↦ inl u ];
  met = λ v t. elim (step.from v t) [ inl u ↦ step.kept v (was.met v (back v u)) | inr u ↦ u ];
}
  where
    here : is_in n a ≡ true
    here = subst (λ l. is_in n l ≡ true) (sym split) (in_right n a0 (n ∷ []) (in_first n n [] refl))

    back : (v : ℕ) → is_in v a0 ≡ true → is_in v a ≡ true
    back v u = subst (λ l. is_in v l ≡ true) (sym split) (in_left v a0 (n ∷ []) u)

    Goal : ℕ → Type 0
    Goal v = (is_in v a1 ≡ true) ⊎ ((w : ℕ) → is_in w (get_or leads v []) ≡ true → is_marked m1 w ≡ true)

    taken : (v : ℕ) → v ≡ n → (w : ℕ) → is_in w (get_or leads v []) ≡ true → is_marked m1 w ≡ true
    taken v e w t = step.taken w (subst (λ l. is_in w l ≡ true) (sym led) (subst (λ k. is_in w (get_or leads k []) ≡ true) e t))

    ahead : (v : ℕ) → (is_in v a0 ≡ true) ⊎ (is_in v (n ∷ []) ≡ true) → (is_in v a1 ≡ true) ⊎ ((w : ℕ) → is_in w (get_or leads v []) ≡ true → is_marked m1 w ≡ true)
    ahead v (inl u) = inl (step.still v u)
    ahead v (inr u) = inr (taken v (only v n u))

    old : (v : ℕ) → (is_in v a ≡ true) ⊎ ((w : ℕ) → is_in w (get_or leads v []) ≡ true → is_marked m0 w ≡ true) →
        (is_in v a1 ≡ true) ⊎ ((w : ℕ) → is_in w (get_or leads v []) ≡ true → is_marked m1 w ≡ true)
    old v (inl u) = ahead v (in_cases v a0 (n ∷ []) (subst (λ l. is_in v l ≡ true) split u))
    old v (inr all) = inr (λ w t. step.kept w (all w t))

pub search_ends : (first : List ℕ) (leads : List (List ℕ)) (marks : List Bool) (ahead : List ℕ) → ahead ≡ [] → IsSearch first leads marks ahead →
    (v : ℕ) → IsLedTo first leads v → is_marked marks v ≡ true
search_ends first leads marks ahead none was _ (at_first v t) = was.begun v t
search_ends first leads marks ahead none was _ (by_step v w led t) = by (was.closed v (search_ends first leads marks ahead none was v led))
  where
    by : (is_in v ahead ≡ true) ⊎ ((w : ℕ) → is_in w (get_or leads v []) ≡ true → is_marked marks w ≡ true) → is_marked marks w ≡ true
    by (inl u) = absurd (let h = subst (λ a. is_in v a ≡ true) none u in cc)
    by (inr all) = all w t

abbrev pub room : List Bool → List ℕ → ℕ
room marks ahead = 2 * unmarked marks + length ahead

pub less_room : (m0 m1 : List Bool) (a a0 a1 names : List ℕ) (n : ℕ) → a ≡ a0 ++ (n ∷ []) → AreTaken names m0 m1 a0 a1 → room m1 a1 < room m0 a
less_room m0 m1 a a0 a1 names n split step = omega (arith, step.room, ap length split, length-append a0 (n ∷ []))

-- ---- a number that was taken off those ahead

pub marked_within : (marks : List Bool) (n : ℕ) → is_marked marks n ≡ true → n < length marks
marked_within [] n t = absurd (cc)
marked_within (m ∷ marks) zero t = omega arith
marked_within (m ∷ marks) (suc n) t = let l = marked_within marks n t in omega (arith, l)

pub below_marks : (first : List ℕ) (leads : List (List ℕ)) (marks : List Bool) (a a0 : List ℕ) (n : ℕ) → a ≡ a0 ++ (n ∷ []) → IsSearch first leads marks a → n < length leads
below_marks first leads marks a a0 n split was =
    let marked : is_marked marks n ≡ true =
    was.met n (subst (λ l. is_in n l ≡ true) (sym split) (in_right n a0 (n ∷ []) (in_first n n [] refl))) in
    let l = marked_within marks n marked in omega (arith, l, was.whole)

pub names_at : (leads : List (List ℕ)) (n : ℕ) (here names : List ℕ) → n < length leads → here ≡ get_or leads n here → names ≡ here → names ≡ get_or leads n []
names_at leads n here names l is same = same ∙ is ∙ get_or_default leads n here [] l

pub none_left : (a : List ℕ) → length a ≡ 0 → a ≡ []
none_left [] h = refl
none_left (x ∷ a) h = absurd (omega (arith, h))
