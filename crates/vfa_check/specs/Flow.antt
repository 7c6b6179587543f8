-- helper: in no public contract
-- The steps of the search for names in scope: what each changes.
use Rattle.std.specs.Prelude.{◌≡◌, ◌<◌, ℕ, Bool, [], ◌∷◌, map, take, get_or, true, false, not, ◌&&◌, ◌||◌, nat_eq, if◌then◌else◌, List, All, length, sum, sum_by, slice_get, slice_set, Some, None}
use Rattle.vfa_ir.specs.declared.functions.Function.{Function}
use Rattle.vfa_ir.specs.Walks.{is_in, is_parameter, results_in, defined_over, successors, IsWalk}
use Rattle.vfa_ir.specs.declared.operations.BlockId.{BlockId}
use Rattle.vfa_cfg.specs.Order.{numbers}
use Rattle.vfa_check.specs.declared.flow.Flow.{Flow}
use Rattle.vfa_check.specs.declared.name_rows.NameRow.{NameRow}
use Rattle.vfa_check.specs.NameRows.{IsRow, has_at}

-- how much the rows can still lose
abbrev pub row_weight : NameRow → ℕ
row_weight row = sum row.words.items

abbrev pub weight : List NameRow → ℕ
weight = sum_by row_weight

-- all rows are for the names of the function, and each block has its own
pub record IsShaped (f : Function) (s : Flow) : Type 0 where
  pub entries : length s.entries.items ≡ length f.blocks
  pub ends : length s.ends.items ≡ length f.blocks
  pub unsent : length s.unsent.items ≡ length f.blocks
  pub entry_rows : All (IsRow (length f.values)) s.entries.items
  pub end_rows : All (IsRow (length f.values)) s.ends.items

-- the entry of one block has lost what the end of another does not have
pub record IsNarrowed (f : Function) (from to : ℕ) (old new : Flow) (lost : Bool) : Type 0 where
  pub shape : IsShaped f new
  pub entries : (b v : ℕ) →
      has_at new.entries.items b v ≡ (has_at old.entries.items b v && (not (nat_eq b to) || has_at old.ends.items from v))
  pub ends : new.ends.items ≡ old.ends.items
  pub sent : lost ≡ false → new.unsent.items ≡ old.unsent.items
  pub unsent : lost ≡ true → new.unsent.items ≡ slice_set old.unsent.items to true
  pub kept : lost ≡ false → (b v : ℕ) → has_at new.entries.items b v ≡ has_at old.entries.items b v
  pub same_weight : lost ≡ false → weight new.entries.items ≡ weight old.entries.items
  pub less : lost ≡ true → weight new.entries.items < weight old.entries.items

-- the end of a block has been made anew from its entry
pub record IsRenewed (f : Function) (b : ℕ) (old new : Flow) : Type 0 where
  pub shape : IsShaped f new
  pub entries : new.entries.items ≡ old.entries.items
  pub ends : (c v : ℕ) →
      has_at new.ends.items c v ≡ (if nat_eq c b then (is_in v (results_in f b) || has_at old.entries.items b v) else has_at old.ends.items c v)
  pub unsent : new.unsent.items ≡ slice_set old.unsent.items b false

-- some walk comes to a block without a definition of the name before it
pub record IsMissedBefore (f : Function) (b v : ℕ) : Type 0 where
  pub passed : List ℕ
  pub walk : IsWalk f (b ∷ passed)
  pub missed : defined_over f passed v ≡ false

-- some walk goes through a block without a definition of the name before it or in it
pub record IsMissedBehind (f : Function) (b v : ℕ) : Type 0 where
  pub passed : List ℕ
  pub walk : IsWalk f (b ∷ passed)
  pub missed : defined_over f (b ∷ passed) v ≡ false

-- whether a block has nothing left to send
abbrev pub is_sent : Flow → ℕ → Bool
is_sent s b = not (get_or s.unsent.items b true)

-- the edges along which ends have been sent: all, but of one block the first k alone
abbrev pub sent_edges : Function → ℕ → ℕ → ℕ → List ℕ
sent_edges f from k b = if nat_eq b from then take k (successors f b) else successors f b

-- What holds all along, where the ends have been sent along these edges: what is gone is missed on a walk; what is left
-- at the entry of the first block is a parameter, and at the entry of another what its predecessors sent.
pub record IsFlow (f : Function) (edges : ℕ → List ℕ) (s : Flow) : Type 0 where
  pub shape : IsShaped f s
  pub parameters : (v : ℕ) → has_at s.entries.items 0 v ≡ true → is_parameter f v ≡ true
  pub sent : (b to v : ℕ) → is_sent s b ≡ true → is_in to (edges b) ≡ true → has_at s.entries.items to v ≡ true →
      has_at s.ends.items b v ≡ true
  pub made : (b v : ℕ) → is_sent s b ≡ true → has_at s.ends.items b v ≡ true →
      (is_in v (results_in f b) || has_at s.entries.items b v) ≡ true
  pub lost_before : (b v : ℕ) → has_at s.entries.items b v ≡ false → IsMissedBefore f b v
  pub lost_behind : (b v : ℕ) → has_at s.ends.items b v ≡ false → IsMissedBehind f b v

-- each block of the order has nothing left to send
abbrev pub IsSettled : List BlockId → Flow → Type 0
IsSettled order s = (b : ℕ) → is_in b (numbers order) ≡ true → is_sent s b ≡ true

-- the results of the phis of a block
abbrev pub phi_results : Function → ℕ → List ℕ
phi_results f b = elim (slice_get f.blocks b) [ None ↦ [] | Some block ↦ map (λ p. p.result.0) block.phis ]
