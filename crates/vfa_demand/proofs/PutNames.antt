-- Names that are put to those of each value.
use Rattle.std.proofs.Common.{◌≡◌, ◌≢◌, ◌<◌, ℕ, zero, suc, ◌+◌, true, false, cond, nat_eq, List, [], ◌∷◌, ◌++◌, length, get_or, set, take, replicate, flat_map, ap, subst, arith, sym, refl, ◌∙◌, inl, inr, ◌⊎◌, length-set, append_assoc, append-nil, ne_eqb}
use Rattle.std.proofs.lemmas.List.{get_or-set_other, get_or-set_same, take_more}
use Rattle.std.proofs.lemmas.List.Concat.{flat_map-append}
use Rattle.std.proofs.lemmas.Bool.{cases_eq, eq-eqb}
use Rattle.vfa_demand.specs.Behind.{ArePut}

pub nothing_put : (more : ℕ → List ℕ) (all : List (List ℕ)) → ((v : ℕ) → v < length all → more v ≡ []) → ArePut more all all
nothing_put more all none = record {
  whole = refl;
  each = λ v l. sym (ap (λ m. get_or all v [] ++ m) (none v l) ∙ append-nil (get_or all v []));
}

pub put_to : (n : ℕ) (names : List ℕ) (all : List (List ℕ)) → n < length all →
    ArePut (λ v. cond (nat_eq n v) names []) all (set all n (get_or all n [] ++ names))
put_to n names all l = record {
  whole = length-set all n (get_or all n [] ++ names);
  each = λ v within. at v (cases_eq v n);
}
  where
    new : List (List ℕ)
    new = set all n (get_or all n [] ++ names)

    at : (v : ℕ) → (v ≡ n) ⊎ (v ≢ n) → get_or (set all n (get_or all n [] ++ names)) v [] ≡ get_or all v [] ++ cond (nat_eq n v) names []
    at v (inl e) =
        let is : nat_eq n v ≡ true = eq-eqb n v (sym e) in
        subst (λ k. get_or (set all n (get_or all n [] ++ names)) k [] ≡ get_or all k [] ++ names) (sym e) (get_or-set_same all n (get_or all n [] ++ names) [] l)
        ∙ ap (λ t. get_or all v [] ++ cond t names []) (sym is)
    at v (inr other) =
        let is : nat_eq n v ≡ false = ne_eqb n v (λ e. other (sym e)) in
        get_or-set_other all n v (get_or all n [] ++ names) [] other ∙ sym (append-nil (get_or all v []))
        ∙ ap (λ t. get_or all v [] ++ cond t names []) (sym is)

pub put_then : (more again : ℕ → List ℕ) (a b c : List (List ℕ)) → ArePut more a b → ArePut again b c → ArePut (λ v. more v ++ again v) a c
put_then more again a b c one two = record {
  whole = two.whole ∙ one.whole;
  each = λ v l. two.each v (subst (λ n. v < n) (sym one.whole) l) ∙ ap (λ m. m ++ again v) (one.each v l) ∙ append_assoc (get_or a v []) (more v) (again v);
}

pub put_same : (more again : ℕ → List ℕ) (a b : List (List ℕ)) → ((v : ℕ) → more v ≡ again v) → ArePut more a b → ArePut again a b
put_same more again a b same put = record {
  whole = put.whole;
  each = λ v l. put.each v l ∙ ap (λ m. get_or a v [] ++ m) (same v);
}

pub put_more : {X : Type 0} (h : X → ℕ → List ℕ) (xs : List X) (i : ℕ) (d : X) (a b c : List (List ℕ)) → i < length xs →
    ArePut (λ v. flat_map (λ x. h x v) (take i xs)) a b → ArePut (h (get_or xs i d)) b c → ArePut (λ v. flat_map (λ x. h x v) (take (i + 1) xs)) a c
put_more {X} h xs i d a b c l one two =
    put_same (λ v. flat_map (λ x. h x v) (take i xs) ++ h (get_or xs i d) v) (λ v. flat_map (λ x. h x v) (take (i + 1) xs)) a c
    (λ v. sym (ap (flat_map (λ (x : X). h x v)) (take_more xs i d l) ∙ flat_map-append (λ (x : X). h x v) (take i xs) (get_or xs i d ∷ [])
    ∙ ap (λ m. flat_map (λ (x : X). h x v) (take i xs) ++ m) (append-nil (h (get_or xs i d) v))))
    (put_then (λ v. flat_map (λ x. h x v) (take i xs)) (h (get_or xs i d)) a b c one two)

pub none_put : (n v : ℕ) → v < n → ◌≡◌ {A = List ℕ} (get_or (replicate n []) v []) []
none_put zero v l = absurd (omega (arith, l))
none_put (suc n) zero l = refl
none_put (suc n) (suc v) l = none_put n v (omega (arith, l))
