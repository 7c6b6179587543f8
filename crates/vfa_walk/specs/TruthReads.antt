-- The names of a table that are read at a block by what works on tables: a rewriter of the block, and a report on it. They are
-- the operands of its instructions, its terminator and the phis that its edges lead to; what may stand in the place of such an
-- operand; what narrowing follows from it through equations; and where the function begins the parameters.
--
-- In `%y = and i8 %x, 7`, `%c = icmp ult i8 %y, 4`, `br i1 %c, label %a, label %b` the block of the branch reads %c, what its
-- equation mentions, %y, and what that of %y mentions, %x.
use Rattle.std.specs.Prelude.{◌≡◌, ℕ, suc, Bool, true, false, IsTrue, Option, Some, None, slice_get, ⊤}
use Rattle.vfa_ir.specs.declared.operations.Bin.{Bin}
use Rattle.vfa_ir.specs.declared.operations.Fun2.{Fun2}
use Rattle.vfa_ir.specs.declared.operations.Op.{Op}
use Rattle.vfa_ir.specs.declared.functions.Block.{Block}
use Rattle.vfa_ir.specs.declared.functions.Function.{Function}
use Rattle.vfa_ir.specs.declared.functions.Inst.{Inst}
use Rattle.vfa_ir.specs.declared.functions.Phi.{Phi}
use Rattle.vfa_ir.specs.Defined.{op_names, term_names, operand_names}
use Rattle.vfa_ir.specs.Walks.{is_in, is_parameter, IsEdge}
use Rattle.vfa_mean.specs.Moments.{IsLine}
use Rattle.vfa_mean.specs.Outcomes.{entry_from, first_block}
use Rattle.vfa_cond.specs.Equations.{equation}
use Rattle.vfa_cond.specs.Narrowing.{deepest}
use Rattle.vfa_cond.specs.States.{AbstractState}
use Rattle.vfa_walk.specs.Tables.{States}

-- the equation of the first name is this operation, and it mentions the second
pub record Mentions (f : Function) (op : Op) (u v : ℕ) : Type 0 where
  pub equation : equation f u ≡ Some op
  pub mentioned : IsTrue (is_in v (op_names f op))

-- ---- operands

-- a use at the block: by an instruction, by the terminator, or by a phi of a block that an edge leads to, for this predecessor
pub data IsUsedAt (f : Function) (b v : ℕ) : Type 0 where
  by_instruction : (block : Block) (i : ℕ) (inst : Inst) → IsLine f b block i inst → IsTrue (is_in v (op_names f inst.op)) → IsUsedAt f b v
  by_terminator : (block : Block) → slice_get f.blocks b ≡ Some block → IsTrue (is_in v (term_names block.term)) → IsUsedAt f b v
  by_phi : (to : ℕ) (block : Block) (place : ℕ) (p : Phi) → IsEdge f b to → slice_get f.blocks to ≡ Some block → slice_get block.phis place ≡ Some p →
      IsTrue (is_in v (operand_names (entry_from b p.entries))) → IsUsedAt f b v

-- ---- what may stand in the place of a result

-- a result of this binary operation may be one of its operands
abbrev pub may_keep : Bin → Bool
may_keep Bin.And = true
may_keep Bin.Or = true
may_keep Bin.Urem = true
may_keep _ = false

-- so may that of a minimum or a maximum
abbrev pub is_extreme : Fun2 → Bool
is_extreme Fun2.Umin = true
is_extreme Fun2.Umax = true
is_extreme Fun2.Smin = true
is_extreme Fun2.Smax = true
is_extreme _ = false

-- Facts may show that the result of this operation is one of its operands, or of a pair that it is an operation on the pair's.
abbrev pub may_give_way : Op → Bool
may_give_way (Op.Select _ _ _ _) = true
may_give_way (Op.Freeze _ _) = true
may_give_way (Op.Bin bin _ _ _ _) = may_keep bin
may_give_way (Op.Two fun _ _ _) = is_extreme fun
may_give_way (Op.Over _ _ _ _) = true
may_give_way (Op.Part _ _ _) = true
may_give_way _ = false

-- from a name, through any number of such operations
pub data StandsFor (f : Function) : ℕ → ℕ → Type 0 where
  itself : (v : ℕ) → StandsFor f v v
  through : (u v w : ℕ) (op : Op) → Mentions f op u v → IsTrue (may_give_way op) → StandsFor f v w → StandsFor f u w

-- ---- what narrowing follows

-- from a name, through at most so many equations
pub data Follows (f : Function) : ℕ → ℕ → ℕ → Type 0 where
  itself : (n v : ℕ) → Follows f n v v
  through : (n u v w : ℕ) (op : Op) → Mentions f op u v → Follows f n v w → Follows f (suc n) u w

-- ---- names that are read

pub data IsReadAt (f : Function) (b v : ℕ) : Type 0 where
  operand : (u w : ℕ) → IsUsedAt f b u → StandsFor f u w → Follows f deepest w v → IsReadAt f b v
  parameter : b ≡ first_block → IsTrue (is_parameter f v) → IsReadAt f b v

-- both states say the same of these names
abbrev pub AgreeOn : {V : Type 0} → (ℕ → Type 0) → AbstractState V → AbstractState V → Type 0
AgreeOn names s t = (v : ℕ) → names v → (s.fact v ≡ t.fact v) × (s.live v ≡ t.live v)

abbrev pub EntriesAgree : {V : Type 0} → (ℕ → Type 0) → Option (AbstractState V) → Option (AbstractState V) → Type 0
EntriesAgree names None None = ⊤
EntriesAgree names (Some s) (Some t) = AgreeOn names s t
EntriesAgree names _ _ = ⊥

-- the tables have states for the same blocks, and agree at each block on the names that are read there
abbrev pub AgreeWhereRead : {V : Type 0} → Function → States V → States V → Type 0
AgreeWhereRead f t u = (b : ℕ) → EntriesAgree (IsReadAt f b) (t b) (u b)
