-- What the order gives, by what depth-first visits give.
use Rattle.std.proofs.Common.{◌≡◌, ℕ, zero, suc, ◌<◌, true, false, List, [], ◌∷◌, length, Some, refl, sym, ap, subst, inl, inr, arith}
use Rattle.std.proofs.lemmas.Bool.{lt-ltb}
use Rattle.std.specs.List.{slice_get}
use Rattle.vfa_ir.specs.declared.operations.BlockId.{BlockId}
use Rattle.vfa_ir.specs.declared.functions.Function.{Function}
use Rattle.vfa_ir.specs.Walks.{is_in, successors, IsWalk, IsReached}
use Rattle.vfa_cfg.specs.Heads.{has_edge_from, heads_of}
use Rattle.vfa_cfg.specs.Order.{IsOrder, is_new, numbers}
use Rattle.vfa_cfg.specs.Ordered.{IsOrdered}
use Rattle.vfa_cfg.proofs.Walked.{has_edges}
use Rattle.vfa_cfg.proofs.Members.{or_left, or_right, first_or_rest}
use Rattle.vfa_cfg.proofs.Visiting.{found_is_block, found_is_closed, found_is_reached, found_once, first_found, seen_was_found, todo_is_seen}

seen_is_in : (f : Function) (order : List BlockId) → (o : IsOrder f order) → (x : ℕ) → is_in x o.seen ≡ true → is_in x (numbers order) ≡ true
seen_is_in f order o x h = elim (seen_was_found o.visits x h) [ inl l ↦ absurd (let e = l in cc) | inr r ↦ r ]

walked : (f : Function) (order : List BlockId) → IsOrder f order → (passed : List ℕ) (b : ℕ) → IsWalk f (b ∷ passed) → b < length f.blocks →
    is_in b (numbers order) ≡ true
walked f order o [] b w l = seen_is_in f order o b (todo_is_seen o.visits b (subst (λ x. is_in x (0 ∷ []) ≡ true) (sym w) refl) l)
walked f order o (from ∷ rest) b w l =
    let before = walked f order o rest from w.1 (has_edges f from b w.0) in
    seen_is_in f order o b (found_is_closed o.visits from b before w.0 l)

reached : (f : Function) (order : List BlockId) → IsOrder f order → (b : ℕ) → is_in b (numbers order) ≡ true → IsReached f b
reached f order o b h =
    let start : IsReached f 0 = record { passed = []; walk = refl } in
    found_is_reached o.visits (λ x t. elim (first_or_rest x 0 [] t) [
      | inl e ↦ subst (IsReached f) (sym e) start
      | inr e ↦ absurd (cc)
    ]) b h

new_entry : (f : Function) → 0 < length f.blocks → is_new f [] 0 ≡ true
new_entry f l = rw (lt-ltb 0 (length f.blocks) l) refl

first : (f : Function) (order : List BlockId) → IsOrder f order → 0 < length f.blocks → slice_get (numbers order) 0 ≡ Some 0
first f order o l = ap (λ blocks. slice_get blocks 0) (first_found o.visits (new_entry f l)).1

-- an edge from a block of a list is one from the list
edge_from : (f : Function) (blocks : List BlockId) (i from to : ℕ) → slice_get (numbers blocks) i ≡ Some from → is_in to (successors f from) ≡ true →
    has_edge_from f blocks to ≡ true
edge_from f [] i from to h e = absurd (cc)
edge_from f (b ∷ blocks) zero from to h e =
    let same : b.0 ≡ from = cc in
    or_left (is_in to (successors f b.0)) (has_edge_from f blocks to) (subst (λ x. is_in to (successors f x) ≡ true) (sym same) e)
edge_from f (b ∷ blocks) (suc i) from to h e =
    or_right (is_in to (successors f b.0)) (has_edge_from f blocks to) (edge_from f blocks i from to h e)

forward : (f : Function) (order : List BlockId) (i j from to : ℕ) → slice_get (numbers order) i ≡ Some from → slice_get (numbers order) j ≡ Some to →
    slice_get (heads_of f order) j ≡ Some false → is_in to (successors f from) ≡ true → i < j
forward f [] i j from to a b h e = absurd (cc)
forward f (o ∷ order) i zero from to a b h e =
    let same : o.0 ≡ to = cc in
    let leads = edge_from f (o ∷ order) i from o.0 a (subst (λ x. is_in x (successors f from) ≡ true) (sym same) e) in
    absurd (let P = h in cc)
forward f (o ∷ order) zero (suc j) from to a b h e = omega arith
forward f (o ∷ order) (suc i) (suc j) from to a b h e = let less = forward f order i j from to a b h e in omega arith

pub is_ordered : (f : Function) (order : List BlockId) → IsOrder f order → IsOrdered f order
is_ordered f order o = record {
  reached = λ b. (λ h. (found_is_block o.visits b h, reached f order o b h), λ h. walked f order o h.1.passed b h.1.walk h.0);
  distinct = found_once o.visits;
  first = first f order o;
  forward = forward f order;
}
