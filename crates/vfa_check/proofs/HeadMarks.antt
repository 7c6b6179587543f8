-- Marks of the heads, from the last block of the order to the first.
use Rattle.std.proofs.Common.{◌≡◌, ◌∙◌, ℕ, zero, suc, ◌+◌, ◌<◌, Bool, true, false, cond, eqb, List, [], ◌∷◌, length, drop, set, get_or, refl, sym, ap, subst, arith}
use Rattle.std.proofs.lemmas.Bool.{eqb-false, eqb-true}
use Rattle.std.proofs.lemmas.List.{drop_more, get_or-set_other, get_or-set_same}
use Rattle.vfa_ir.specs.declared.operations.BlockId.{BlockId}
use Rattle.vfa_ir.specs.declared.functions.Function.{Function}
use Rattle.vfa_cfg.specs.Heads.{has_edge_from, heads_of, is_head}

-- the head at a place of the order
pub head_at : (f : Function) (order : List BlockId) (p : ℕ) (d : BlockId) → p < length order →
    get_or (heads_of f order) p false ≡ has_edge_from f (drop p order) (get_or order p d).0
head_at f [] p d h = absurd (omega arith)
head_at f (b ∷ order) zero d h = refl
head_at f (b ∷ order) (suc p) d h = head_at f order p d (omega arith)

pub all_heads : (f : Function) (order : List BlockId) → length (heads_of f order) ≡ length order
all_heads f [] = refl
all_heads f (b ∷ order) = ap suc (all_heads f order)

pub marked_next : (f : Function) (order : List BlockId) (p : ℕ) (d : BlockId) (marks : List Bool) (b : ℕ) → p < length order →
    (get_or order p d).0 < length marks → get_or marks b false ≡ is_head f (drop (p + 1) order) b →
    get_or (set marks (get_or order p d).0 (get_or (heads_of f order) p false)) b false ≡ is_head f (drop p order) b
marked_next f order p d marks b within inside so_far =
    let o : BlockId = get_or order p d in
    let front : drop p order ≡ o ∷ drop (p + 1) order = drop_more order p d within in
    at (eqb o.0 b) refl ∙ ap (λ l. is_head f l b) (sym front)
  where
    at : (t : Bool) → eqb (get_or order p d).0 b ≡ t →
        get_or (set marks (get_or order p d).0 (get_or (heads_of f order) p false)) b false ≡ is_head f (get_or order p d ∷ drop (p + 1) order) b
    at true h =
        let same : (get_or order p d).0 ≡ b = eqb-true (get_or order p d).0 b h in
        subst (λ n. get_or (set marks (get_or order p d).0 (get_or (heads_of f order) p false)) n false ≡ get_or (heads_of f order) p false) same
        (get_or-set_same marks (get_or order p d).0 (get_or (heads_of f order) p false) false inside)
        ∙ head_at f order p d within
        ∙ ap (λ l. has_edge_from f l (get_or order p d).0) (drop_more order p d within)
        ∙ ap (has_edge_from f (get_or order p d ∷ drop (p + 1) order)) same
        ∙ sym (ap (λ t. cond t (has_edge_from f (get_or order p d ∷ drop (p + 1) order) b) (is_head f (drop (p + 1) order) b)) h)
    at false h =
        get_or-set_other marks (get_or order p d).0 b (get_or (heads_of f order) p false) false (λ e. eqb-false (get_or order p d).0 b h (sym e))
        ∙ so_far
        ∙ sym (ap (λ t. cond t (has_edge_from f (get_or order p d ∷ drop (p + 1) order) b) (is_head f (drop (p + 1) order) b)) h)
