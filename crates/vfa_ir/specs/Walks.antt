-- The walks through a function: lists of blocks from the entry along edges, and the names that are defined on them
-- (LLVM Language Reference, "Functions": the control flow graph; "Well-Formedness").
--
-- In `entry: br i1 %c, label %a, label %b`, `a: br label %b`, the walks to b are entry, b and entry, a, b: what a alone
-- defines is not defined on every walk to b.
use Rattle.std.specs.Prelude.{◌≡◌, ℕ, Bool, ◌||◌, IsTrue, List, [], ◌∷◌, ◌++◌, map, take, Some, None, slice_get}
use Rattle.std.specs.List.{list_any}
use Rattle.vfa_ir.specs.declared.functions.Function.{Function}
use Rattle.vfa_ir.specs.PhisFit.{targets}
use Rattle.vfa_ir.specs.Printable.{block_ids, inst_ids}
pub use Rattle.vfa_ir.specs.Words.{is_in}

-- the blocks that the edges of a block lead to, one for each edge, as written
abbrev pub successors : Function → ℕ → List ℕ
successors f b = elim (slice_get f.blocks b) [ None ↦ [] | Some block ↦ map (λ t. t.0) (targets block.term) ]

-- an edge leads from one block to another
abbrev pub IsEdge : Function → ℕ → ℕ → Type 0
IsEdge f from to = IsTrue (is_in to (successors f from))

-- A walk is a list of blocks from the entry along edges. The list has the last block first.
abbrev pub IsWalk : Function → List ℕ → Type 0
IsWalk f [] = ⊥
IsWalk f (b ∷ []) = b ≡ 0
IsWalk f (b ∷ (from ∷ rest)) = IsEdge f from b × IsWalk f (from ∷ rest)

-- some walk comes to the block
pub record IsReached (f : Function) (b : ℕ) : Type 0 where
  pub passed : List ℕ
  pub walk : IsWalk f (b ∷ passed)

-- Names, by their places in `values`

abbrev pub is_parameter : Function → ℕ → Bool
is_parameter f v = is_in v (map (λ p. p.value.0) f.params)

-- the results of a block: of its phis and of its other instructions
abbrev pub results_in : Function → ℕ → List ℕ
results_in f b = elim (slice_get f.blocks b) [ None ↦ [] | Some block ↦ block_ids block ]

-- the results of its phis and of its first n other instructions
abbrev pub results_before : Function → ℕ → ℕ → List ℕ
results_before f b n = elim (slice_get f.blocks b) [
  | None ↦ []
  | Some block ↦ map (λ p. p.result.0) block.phis ++ inst_ids (take n block.insts)
]

-- whether a name is defined on a walk that has passed these blocks: it is a parameter, or a result in one of them
abbrev pub defined_over : Function → List ℕ → ℕ → Bool
defined_over f passed v = is_parameter f v || list_any (λ b. is_in v (results_in f b)) passed

-- whether it is defined when the walk has come, after these blocks, to instruction n of block b (its terminator, if n
-- is the number of its instructions)
abbrev pub defined_on : Function → List ℕ → ℕ → ℕ → ℕ → Bool
defined_on f passed b n v = defined_over f passed v || is_in v (results_before f b n)

-- The name is defined on every walk to instruction n of block b. Of a block that no walk reaches this is so of each name.
abbrev pub IsDefinedAt : Function → ℕ → ℕ → ℕ → Type 0
IsDefinedAt f b n v = (passed : List ℕ) → IsWalk f (b ∷ passed) → IsTrue (defined_on f passed b n v)

-- Some walk comes to instruction n of block b without a definition of the name.
pub record IsMissedAt (f : Function) (b n v : ℕ) : Type 0 where
  pub passed : List ℕ
  pub walk : IsWalk f (b ∷ passed)
  pub missed : IsTrue (defined_on f passed b n v) → ⊥
