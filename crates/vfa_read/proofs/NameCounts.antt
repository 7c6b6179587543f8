-- How many names a function defines.
use Rattle.std.proofs.Common.{◌≡◌, ◌≤◌, ◌<◌, ◌+◌, ℕ, suc, List, [], ◌∷◌, ◌++◌, true, false, length, drop, flat_map, if◌then◌else◌, refl, ap, sym, ◌∙◌, arith, nat_lt, length-append, get_or, drop-cons, add-one}
use Rattle.std.proofs.lemmas.List.{drop_all}
use Rattle.vfa_ir.specs.declared.syntax.BasicBlock.{BasicBlock}
use Rattle.vfa_ir.specs.declared.syntax.Parameter.{Parameter}
use Rattle.vfa_ir.specs.DefinedNames.{parameter_names, block_results, value_names, is_numbered}
use Rattle.vfa_read.specs.Resolving.{tree}

pub length-parameter_names : (k : ℕ) (ps : List Parameter) → length (parameter_names k ps) ≡ length ps
length-parameter_names k [] = refl
length-parameter_names k (p ∷ ps) = ap suc (length-parameter_names (if is_numbered p then k + 1 else k) ps)

pub length-value_names : (ps : List Parameter) (bs : List BasicBlock)
    → length (value_names (tree ps bs)) ≡ length ps + length (flat_map block_results bs)
length-value_names ps bs =
    length-append (parameter_names 0 ps) (flat_map block_results bs) ∙ ap (λ n. n + length (flat_map block_results bs)) (length-parameter_names 0 ps)

pub passes : (n m : ℕ) → n < m → true ≡ nat_lt n m
passes n m h = grind (arith, h)

pub passes_not : (n m : ℕ) → m ≤ n → false ≡ nat_lt n m
passes_not n m h = grind (arith, h)

-- what stands after the element at i, and past the end
pub step-flat_map : {X Y : Type 0} (f : X → List Y) (xs : List X) (i : ℕ) (x : X) → i < length xs → x ≡ get_or xs i x
    → flat_map f (drop i xs) ≡ f x ++ flat_map f (drop (i + 1) xs)
step-flat_map f xs i x h e =
    let k : drop (i + 1) xs ≡ drop (suc i) xs = ap (λ n. drop n xs) (add-one i) in
    let d : drop i xs ≡ x ∷ drop (i + 1) xs = drop-cons xs i x h ∙ ap (λ y. y ∷ drop (suc i) xs) (sym e) ∙ ap (λ r. x ∷ r) (sym k) in
    ap (flat_map f) d

pub end-flat_map : {X Y : Type 0} (f : X → List Y) (xs : List X) (i : ℕ) → length xs ≤ i → flat_map f (drop i xs) ≡ []
end-flat_map f xs i h = ap (flat_map f) (drop_all i xs h)
