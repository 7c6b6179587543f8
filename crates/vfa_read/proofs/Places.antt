-- The lexemes from a place on.
use Rattle.std.proofs.Common.{◌≡◌, ℕ, suc, ◌+◌, ◌<◌, List, ◌∷◌, length, map, drop, get_or, sym, ap, ◌∙◌, drop-cons, add-one}
use Rattle.std.proofs.lemmas.List.{drop-map}

pub drop_at_map : {A B : Type 0} (f : A → B) (xs : List A) (at : ℕ) (x : A) → at < length xs → x ≡ get_or xs at x → drop at (map f xs) ≡ f x ∷ drop (at + 1) (map f xs)
drop_at_map f xs at x h e =
    drop-map f at xs ∙ ap (map f) (drop-cons xs at x h)
    ∙ ap (λ z. f z ∷ map f (drop (suc at) xs)) (sym e)
    ∙ ap (λ z. f x ∷ z) (sym (drop-map f (suc at) xs))
    ∙ ap (λ n. f x ∷ drop n (map f xs)) (sym (add-one at))
