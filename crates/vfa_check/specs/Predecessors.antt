-- helper: in no public contract
-- The predecessors of the blocks, and the phis that fit them.
use Rattle.std.specs.Prelude.{◌≡◌, ◌<◌, ℕ, List, [], ◌∷◌, ◌++◌, All, AllPairs, Contains, Some, length, count_by, nat_eq, get_or, slice_get, slice_index, slice_set}
use Rattle.vfa_ir.specs.declared.operations.BlockId.{BlockId}
use Rattle.vfa_ir.specs.declared.operations.Operand.{Operand}
use Rattle.vfa_ir.specs.declared.functions.Function.{Function}
use Rattle.vfa_ir.specs.declared.functions.Phi.{Phi}
use Rattle.vfa_ir.specs.PhisFit.{edge_count}

-- how often a block stands among these
abbrev pub times : ℕ → List BlockId → ℕ
times b = count_by (λ p. nat_eq p.0 b)

abbrev pub Entries : Type 0
Entries = List (Operand × BlockId)

-- how often the entries of a phi name a block
abbrev pub times_named : ℕ → Entries → ℕ
times_named b = count_by (λ e. nat_eq e.1.0 b)

-- for each block the blocks from which edges lead to it, one for each edge
pub record ArePredecessors (f : Function) (all : List (List BlockId)) : Type 0 where
  pub each : length all ≡ length f.blocks
  pub edges : (to from : ℕ) → to < length f.blocks → times from (get_or all to []) ≡ edge_count f from to
  pub within : (to : ℕ) → All (λ p. p.0 < length f.blocks) (get_or all to [])

-- the predecessors with those of one edge more
abbrev pub with_edge : BlockId → BlockId → List (List BlockId) → List (List BlockId)
with_edge from to all = slice_set all to.0 (get_or all to.0 [] ++ from ∷ [])

abbrev pub NamesEach : List BlockId → Entries → Type 0
NamesEach predecessors entries = (from : ℕ) → times_named from entries ≡ times from predecessors

abbrev pub HasOneOperand : Entries → Type 0
HasOneOperand = AllPairs (λ d e. d.1 ≡ e.1 → d.0 ≡ e.0)

pub record FitsPredecessors (predecessors : List BlockId) (entries : Entries) : Type 0 where
  pub each_edge : NamesEach predecessors entries
  pub one_operand : HasOneOperand entries

-- a block that stands at this place and has these predecessors and phis
pub record FitsBlock (place : ℕ) (predecessors : List BlockId) (phis : List Phi) : Type 0 where
  pub phis_fit : All (λ p. FitsPredecessors predecessors p.entries) phis
  pub entry : place ≡ 0 → predecessors ≡ []

-- of some entry that names the block of this one, the operand is written there
pub record HasSource (entries : Entries) (written : List Operand) (e : Operand × BlockId) : Type 0 where
  pub operand : Operand
  pub among : Contains entries (operand, e.1)
  pub there : slice_get written e.1.0 ≡ Some operand

-- a tally and an operand for each block, with nothing tallied
pub record AreClear (left : List ℕ) (operands : List Operand) : Type 0 where
  pub zero : (b : ℕ) → slice_index left b ≡ 0
  pub operands_each : length operands ≡ length left
