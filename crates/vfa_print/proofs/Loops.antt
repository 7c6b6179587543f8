-- One step of a loop that writes a list.
use Rattle.std.proofs.Common.{◌≡◌, ◌∙◌, ℕ, ◌<◌, ◌+◌, List, ◌∷◌, ap, sym, drop, drop-cons, get_or, length, suc, add-one, flat_map, map}
use Rattle.vfa_ir.specs.Lexemes.{Lexeme}
use Rattle.vfa_print.proofs.Drafts.{with_tokens_append}
use Rattle.vfa_print.specs.Writing.{Draft, with_tokens}

pub item_and_rest : {X : Type 0} (xs : List X) (i : ℕ) (x : X) → i < length xs → x ≡ get_or xs i x → drop i xs ≡ x ∷ drop (i + 1) xs
item_and_rest xs i x h e =
    let k : drop (i + 1) xs ≡ drop (suc i) xs = ap (λ n. drop n xs) (add-one i) in
    drop-cons xs i x h ∙ ap (λ y. y ∷ drop (suc i) xs) (sym e) ∙ ap (λ r. x ∷ r) (sym k)

pub tokens_step : {X Y : Type 0} (f : Y → List Lexeme) (g : X → Y) (xs : List X) (i : ℕ) (x : X) (all now next : Draft)
    → i < length xs → x ≡ get_or xs i x → all ≡ with_tokens now (flat_map f (map g (drop i xs))) → next ≡ with_tokens now (f (g x))
    → all ≡ with_tokens next (flat_map f (map g (drop (i + 1) xs)))
tokens_step f g xs i x all now next within is so_far step =
    let rest = flat_map f (map g (drop (i + 1) xs)) in
    so_far
    ∙ ap (λ ys. with_tokens now (flat_map f (map g ys))) (item_and_rest xs i x within is)
    ∙ with_tokens_append now (f (g x)) rest
    ∙ ap (λ d. with_tokens d rest) (sym step)
