-- A block with an edge is a block of the function.
use Rattle.std.proofs.Common.{◌≡◌, ℕ, zero, suc, ◌<◌, false, true, List, [], ◌∷◌, length, None, refl, arith}
use Rattle.std.specs.List.{slice_get}
use Rattle.vfa_ir.specs.declared.functions.Function.{Function}
use Rattle.vfa_ir.specs.Walks.{is_in, successors}
use Rattle.vfa_cfg.proofs.Members.{false_is_no_truth}

within_from_some : {X : Type 0} (xs : List X) (k : ℕ) → (slice_get xs k ≡ None → ⊥) → k < length xs
within_from_some [] k h = absurd (h refl)
within_from_some (x ∷ xs) zero h = omega arith
within_from_some (x ∷ xs) (suc k) h = let less = within_from_some xs k h in omega arith

pub has_edges : (f : Function) (from to : ℕ) → is_in to (successors f from) ≡ true → from < length f.blocks
has_edges f from to h =
    within_from_some f.blocks from (λ e. let nowhere : is_in to (successors f from) ≡ false = rw (e, successors) refl in false_is_no_truth h nowhere)
