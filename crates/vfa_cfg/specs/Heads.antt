-- The heads of an order: the blocks to which an edge comes from a block at their own place or later. Each loop of blocks
-- has one.
use Rattle.std.specs.Prelude.{ℕ, Bool, false, nat_eq, if◌then◌else◌, List, [], ◌∷◌}
use Rattle.std.specs.List.{list_any}
use Rattle.vfa_ir.specs.declared.operations.BlockId.{BlockId}
use Rattle.vfa_ir.specs.declared.functions.Function.{Function}
use Rattle.vfa_ir.specs.Walks.{is_in, successors}

-- whether an edge leads to a block from one of these
abbrev pub has_edge_from : Function → List BlockId → ℕ → Bool
has_edge_from f blocks to = list_any (λ from. is_in to (successors f from.0)) blocks

-- for each block of the order, whether it is a head
abbrev pub heads_of : Function → List BlockId → List Bool
heads_of f [] = []
heads_of f (b ∷ later) = has_edge_from f (b ∷ later) b.0 ∷ heads_of f later

-- whether a block is a head; one outside the order is none
abbrev pub is_head : Function → List BlockId → ℕ → Bool
is_head f [] b = false
is_head f (first ∷ later) b =
    if nat_eq first.0 b then has_edge_from f (first ∷ later) b else is_head f later b
