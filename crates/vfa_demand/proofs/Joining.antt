-- Lists that are joined one element after another.
use Rattle.std.proofs.Common.{◌≡◌, ◌<◌, ◌+◌, ℕ, List, [], ◌∷◌, ◌++◌, drop, flat_map, get_or, length, sym, ap, ◌∙◌, add-one, append_assoc, drop-cons}

pub joined_more : {A : Type 0} (h : A → List ℕ) (xs : List A) (i : ℕ) (x : A) (all old new : List ℕ) → i < length xs → x ≡ get_or xs i x →
    all ≡ old ++ flat_map h (drop i xs) → new ≡ old ++ h x → all ≡ new ++ flat_map h (drop (i + 1) xs)
joined_more h xs i x all old new less is so_far step =
    so_far
    ∙ (ap (λ rest. old ++ flat_map h rest) (drop-cons xs i x less ∙ (λ j. sym is j ∷ drop (sym (add-one i) j) xs))
    ∙ (sym (append_assoc old (h x) (flat_map h (drop (i + 1) xs))) ∙ ap (λ names. names ++ flat_map h (drop (i + 1) xs)) (sym step)))
