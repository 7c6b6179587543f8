-- Which phis fit the edges of their function (LLVM Language Reference, "phi Instruction" and "Functions").
use Rattle.std.specs.Prelude.{◌≡◌, ◌<◌, ℕ, List, [], ◌∷◌, All, AllPairs, map, length, count_by, nat_eq, slice_get, Some, None, IfSome}
use Rattle.vfa_ir.specs.declared.operations.BlockId.{BlockId}
use Rattle.vfa_ir.specs.declared.functions.Function.{Function}
use Rattle.vfa_ir.specs.declared.functions.Phi.{Phi}
use Rattle.vfa_ir.specs.declared.functions.Term.{Term}

-- the targets of a terminator, one for each edge, as written
abbrev pub targets : Term → List BlockId
targets (Term.Ret _ _) = []
targets (Term.Br to) = to ∷ []
targets (Term.CondBr _ taken fallen) = taken ∷ fallen ∷ []
targets (Term.Switch _ _ default cases) = default ∷ map (λ c. c.1) cases
targets Term.Unreachable = []

-- how many edges lead from one block to another
abbrev pub edge_count : Function → ℕ → ℕ → ℕ
edge_count f from to = elim (slice_get f.blocks from) [ None ↦ 0 | Some b ↦ count_by (λ t. nat_eq t.0 to) (targets b.term) ]

-- A phi of the block names each predecessor once for each edge, with one operand where it names it more than once.
pub record PhiFits (f : Function) (block : ℕ) (p : Phi) : Type 0 where
  pub each_edge : (from : ℕ) → count_by (λ e. nat_eq e.1.0 from) p.entries ≡ edge_count f from block
  pub one_operand : AllPairs (λ d e. d.1 ≡ e.1 → d.0 ≡ e.0) p.entries

-- No edge leads to the entry.
abbrev pub HasNoEdgeTo : Function → ℕ → Type 0
HasNoEdgeTo f block = (from : ℕ) → edge_count f from block ≡ 0

pub record PhisFitIn (f : Function) (block : ℕ) : Type 0 where
  pub phis : IfSome (slice_get f.blocks block) (λ b. All (PhiFits f block) b.phis)
  pub entry : block ≡ 0 → HasNoEdgeTo f block

abbrev pub PhisFit : Function → Type 0
PhisFit f = (block : ℕ) → block < length f.blocks → PhisFitIn f block
