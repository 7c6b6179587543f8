-- The state of the depth-first walk: the marks of the blocks seen, the visits that have begun, the innermost last, and
-- the blocks whose visits have ended, in this order.
use Rattle.std.specs.Prelude.{ℕ, ◌+◌, Bool, true, false, not, if◌then◌else◌, List, [], ◌∷◌, ◌++◌, Option, Some, None, slice_get, slice_set}
use Rattle.vfa_cfg.specs.declared.search.Visit.{Visit}
use Rattle.vfa_ir.specs.declared.operations.BlockId.{BlockId}

pub record Search : Type 0 where
  pub seen : List Bool
  pub visits : List Visit
  pub ended : List BlockId

abbrev pub is_unseen : List Bool → ℕ → Bool
is_unseen seen b = elim (slice_get seen b) [ None ↦ false | Some mark ↦ not mark ]

abbrev pub begun : Search → BlockId → Search
begun s to = record s { seen = slice_set s.seen to.0 true; visits = s.visits ++ ((record { block = to; next = 0 }) ∷ []) }

-- a block is come to: where it is new, its visit begins
abbrev pub come_to : Search → BlockId → Search
come_to s to = if is_unseen s.seen to.0 then begun s to else s

-- the visit goes on to the next successor, or it ends
abbrev pub goes_on : Search → Visit → Search
goes_on s visit = record s { visits = s.visits ++ ((record visit { next = visit.next + 1 }) ∷ []) }

abbrev pub stepped : Search → Visit → Option BlockId → Search
stepped s visit None = record s { ended = s.ended ++ (visit.block ∷ []) }
stepped s visit (Some to) = come_to (goes_on s visit) to
