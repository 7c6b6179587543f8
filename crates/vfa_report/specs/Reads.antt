-- The names of a table that a report on a function reads at a block: those that the instructions and the terminator use, and what
-- narrowing follows from these through equations; the results of the phis; and where the function begins the parameters.
--
-- In a block of `%p = phi i8 [ %z, %entry ]`, `%y = and i8 %x, 7`, `%c = icmp ult i8 %y, 4` and `call void @llvm.assume(i1 %c)` these are
-- %p, %x, %y and %c, but not %z, and no other that the equations of these do not mention.
use Rattle.std.specs.Prelude.{◌≡◌, ℕ, IsTrue, Some, List, ◌++◌, map, flat_map, slice_get}
use Rattle.vfa_ir.specs.declared.functions.Block.{Block}
use Rattle.vfa_ir.specs.declared.functions.Function.{Function}
use Rattle.vfa_ir.specs.Defined.{op_names, term_names}
use Rattle.vfa_ir.specs.Walks.{is_in, is_parameter}
use Rattle.vfa_mean.specs.Outcomes.{first_block}
use Rattle.vfa_cond.specs.Narrowing.{deepest}
use Rattle.vfa_walk.specs.Tables.{States}
use Rattle.vfa_walk.specs.TruthReads.{EntriesAgree, Follows}

-- the names that the instructions of a block, phis aside, and its terminator use
abbrev pub uses_in : Function → Block → List ℕ
uses_in f block = flat_map (λ i. op_names f i.op) block.insts ++ term_names block.term

pub data IsReported (f : Function) (b v : ℕ) : Type 0 where
  used : (block : Block) (u : ℕ) → slice_get f.blocks b ≡ Some block → IsTrue (is_in u (uses_in f block)) → Follows f deepest u v → IsReported f b v
  of_phi : (block : Block) → slice_get f.blocks b ≡ Some block → IsTrue (is_in v (map (λ p. p.result.0) block.phis)) → IsReported f b v
  parameter : b ≡ first_block → IsTrue (is_parameter f v) → IsReported f b v

-- the tables have states for the same blocks, and say the same at each block of the names that a report reads there
abbrev pub AgreeWhereReported : {V : Type 0} → Function → States V → States V → Type 0
AgreeWhereReported f t u = (b : ℕ) → EntriesAgree (IsReported f b) (t b) (u b)
