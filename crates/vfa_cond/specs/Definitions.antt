-- helper: in no public contract
-- Where names are defined.
use Rattle.std.specs.Prelude.{◌≡◌, ℕ, true, Some, slice_get}
use Rattle.vfa_ir.specs.declared.operations.Op.{Op}
use Rattle.vfa_ir.specs.declared.functions.Block.{Block}
use Rattle.vfa_ir.specs.declared.functions.Function.{Function}
use Rattle.vfa_ir.specs.declared.functions.Inst.{Inst}
use Rattle.vfa_cond.specs.Equations.{is_definition}

-- an instruction of this operation defines the name
pub record IsDefinedBy (f : Function) (v : ℕ) (op : Op) : Type 0 where
  pub block : Block
  pub block_place : ℕ
  pub block_is : slice_get f.blocks block_place ≡ Some block
  pub inst : Inst
  pub place : ℕ
  pub is : slice_get block.insts place ≡ Some inst
  pub defines : is_definition v inst ≡ true
  pub operation : inst.op ≡ op
