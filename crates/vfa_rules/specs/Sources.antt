-- Where an overflow intrinsic stands whose pair an instruction takes a part of.
use Rattle.std.specs.Prelude.{◌≡◌, ℕ, Some}
use Rattle.vfa_ir.specs.declared.functions.Block.{Block}
use Rattle.vfa_ir.specs.declared.functions.Function.{Function}
use Rattle.vfa_ir.specs.declared.functions.Inst.{Inst}
use Rattle.vfa_ir.specs.declared.operations.Op.{Op}
use Rattle.vfa_ir.specs.declared.operations.ValueId.{ValueId}
use Rattle.vfa_mean.specs.Moments.{IsLine}
use Rattle.vfa_rules.specs.declared.change.OverflowCall.{OverflowCall}

-- a line of the function is the intrinsic of width w, and its result is the name
pub record IsGivenBy (f : Function) (w v : ℕ) (call : OverflowCall) : Type 0 where
  pub block_number : ℕ
  pub block : Block
  pub line_number : ℕ
  pub inst : Inst
  pub name : ValueId
  pub line : IsLine f block_number block line_number inst
  pub result : inst.result ≡ Some name
  pub is_name : name.0 ≡ v
  pub operation : inst.op ≡ Op.Over call.over w call.a call.b
