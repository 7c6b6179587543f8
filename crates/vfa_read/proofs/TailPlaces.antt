-- How far the tail of a function is read.
use Rattle.std.proofs.Common.{◌≡◌, ◌≤◌, ◌+◌, ◌-◌, ◌==◌, ℕ, zero, suc, Bool, false, true, List, [], ◌∷◌, ◌++◌, length, take, drop, Option, Some, None, Ok, Err, refl, sym, ap, ◌∙◌, arith}
use Rattle.std.proofs.lemmas.List.{drop-drop}
use Rattle.std.proofs.lemmas.Bool.Decides.{nat_tests}
use Rattle.std.specs.Str.{byte}
use Rattle.vfa_ir.specs.Grammar.{may_follow_parameters}
use Rattle.vfa_ir.specs.Lexemes.{Lexeme, local, global, label, nameless_local, nameless_global, nameless_label, metadata, group, number, mark, word, string, other}
use Rattle.vfa_read.specs.Headers.{tail_from, tail_end}
use Rattle.vfa_read.specs.Readers.{next_passes}
use Rattle.vfa_read.specs.Trees.{between, open_after}
use Rattle.vfa_read.proofs.Loops.{with_prefix, prefix_done, prefix_item, prefix_bad}
use Rattle.vfa_read.proofs.TailReader.{tail_more, tail_closed, tail_done}
use Rattle.vfa_read.proofs.Outcomes.{none_some, some_same}

take_next : (n : ℕ) (xs ys : List Lexeme) (x : Lexeme) → drop n xs ≡ x ∷ ys → take (suc n) xs ≡ take n xs ++ (x ∷ [])
take_next zero [] ys x e = cc
take_next zero (z ∷ zs) ys x e = let same : z ≡ x = cc in ap (λ y. y ∷ []) same
take_next (suc n) [] ys x e = cc
take_next (suc n) (z ∷ zs) ys x e = ap (λ y. z ∷ y) (take_next n zs ys x e)

-- what the tail is where so many parentheses are open after the lexemes that were read
pub record Reached (all : List Lexeme) (from at depth : ℕ) : Type 0 where
  pub later : from ≤ at
  pub deep : depth ≤ at
  pub is : with_prefix (between from at all) (tail_from depth (drop at all)) ≡ tail_from 0 (drop from all)

between_next : (all : List Lexeme) (from at : ℕ) (l : Lexeme) → from ≤ at → drop at all ≡ l ∷ drop (at + 1) all → between from (at + 1) all ≡ between from at all ++ (l ∷ [])
between_next all from at l h e =
    let more : at + 1 - from ≡ suc (at - from) = omega arith in
    let whole : from + (at - from) ≡ at = omega arith in
    ap (λ z. take z (drop from all)) more
    ∙ take_next (at - from) (drop from all) (drop (at + 1) all) l (drop-drop (at - from) from all ∙ ap (λ z. drop z all) whole ∙ e)

same_depth : (depth next at : ℕ) → ◌≡◌ {A = Option ℕ} (Some depth) (Some next) → depth ≤ at → next ≤ at + 1
same_depth depth next at e h = let k = some_same e in omega arith

deeper : (depth next at : ℕ) (l : Lexeme) → open_after depth l ≡ Some next → depth ≤ at → next ≤ at + 1
deeper depth next at (local x) e h = same_depth depth next at e h
deeper depth next at (global x) e h = same_depth depth next at e h
deeper depth next at (label x) e h = same_depth depth next at e h
deeper depth next at nameless_local e h = same_depth depth next at e h
deeper depth next at nameless_global e h = same_depth depth next at e h
deeper depth next at nameless_label e h = same_depth depth next at e h
deeper depth next at (metadata x) e h = same_depth depth next at e h
deeper depth next at (group x) e h = same_depth depth next at e h
deeper depth next at (number x) e h = same_depth depth next at e h
deeper depth next at (word x) e h = same_depth depth next at e h
deeper depth next at string e h = same_depth depth next at e h
deeper depth next at (mark c) e h = go (c == byte "(") refl (c == byte ")") refl (depth == 0) refl
  where
    go : (a : Bool) → (c == byte "(") ≡ a → (b : Bool) → (c == byte ")") ≡ b → (z : Bool) → (depth == 0) ≡ z → next ≤ at + 1
    go true a b p z q =
        let o : open_after depth (mark c) ≡ Some (depth + 1) = rw a refl in
        let k = some_same (sym o ∙ e) in
        omega arith
    go false a true b true z =
        let o : open_after depth (mark c) ≡ None = rw (a, b, z) refl in
        absurd (none_some (sym o ∙ e))
    go false a true b false z =
        let o : open_after depth (mark c) ≡ Some (depth - 1) = rw (a, b, z) refl in
        let k = some_same (sym o ∙ e) in
        omega arith
    go false a false b z q =
        let o : open_after depth (mark c) ≡ Some depth = rw (a, b) refl in
        let k = some_same (sym o ∙ e) in
        omega arith
deeper depth next at other e h = same_depth depth next at e h

pub reached_next : (all : List Lexeme) (from at depth next : ℕ) (l : Lexeme) → may_follow_parameters l ≡ true → drop at all ≡ l ∷ drop (at + 1) all → open_after depth l ≡ Some next → Reached all from at depth → Reached all from (at + 1) next
reached_next all from at depth next l f e o r =
    let prefix = between from at all in
    let item = ap (tail_from depth) e ∙ tail_more l depth next (drop (at + 1) all) f o in
    let moved = prefix_item prefix l (tail_from depth (drop at all)) (tail_from next (drop (at + 1) all)) item in
    let h : from ≤ at = r.later in
    record {
      later = omega arith;
      deep = deeper depth next at l o r.deep;
      is = ap (λ z. with_prefix z (tail_from next (drop (at + 1) all))) (between_next all from at l r.later e) ∙ sym moved ∙ r.is;
    }

pub reached_done : (all : List Lexeme) (from at : ℕ) → next_passes may_follow_parameters (drop at all) ≡ false → Reached all from at 0 → tail_from 0 (drop from all) ≡ Ok (between from at all, drop at all)
reached_done all from at f r = sym r.is ∙ prefix_done (between from at all) (drop at all) (tail_from 0 (drop at all)) (tail_done (drop at all) 0 f)

not_zero : (n : ℕ) → (n ≡ 0 → ⊥) → (n == 0) ≡ false
not_zero zero h = absurd (h refl)
not_zero (suc n) h = grind (arith, nat_tests)

pub reached_open : (all : List Lexeme) (from at depth : ℕ) → (depth ≡ 0 → ⊥) → next_passes may_follow_parameters (drop at all) ≡ false → Reached all from at depth → tail_from 0 (drop from all) ≡ Err (length (drop at all))
reached_open all from at depth z f r =
    let closed : (depth == 0) ≡ false = not_zero depth z in
    let ended : tail_end depth (drop at all) ≡ Err (length (drop at all)) = rw closed refl in
    sym r.is ∙ prefix_bad (between from at all) (length (drop at all)) (tail_from depth (drop at all)) (tail_done (drop at all) depth f ∙ ended)

pub reached_closed : (all : List Lexeme) (from at depth : ℕ) (l : Lexeme) → may_follow_parameters l ≡ true → drop at all ≡ l ∷ drop (at + 1) all → open_after depth l ≡ None → Reached all from at depth → tail_from 0 (drop from all) ≡ Err (length (drop at all))
reached_closed all from at depth l f e o r =
    let here = ap (tail_from depth) e ∙ tail_closed l depth (drop (at + 1) all) f o ∙ ap Err (ap length (sym e)) in
    sym r.is ∙ prefix_bad (between from at all) (length (drop at all)) (tail_from depth (drop at all)) here
