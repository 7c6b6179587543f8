-- The moments of a function: the places that its runs come to, each with the values that the names have there. A run that
-- is undefined comes to no further place.
use Rattle.std.specs.Prelude.{ℕ, suc, ◌≡◌, Bool, true, false, Option, Some, None, List, length, slice_get}
use Rattle.vfa_ir.specs.declared.operations.Op.{Op}
use Rattle.vfa_ir.specs.declared.functions.Block.{Block}
use Rattle.vfa_ir.specs.declared.functions.CallOp.{CallOp}
use Rattle.vfa_ir.specs.declared.functions.Function.{Function}
use Rattle.vfa_ir.specs.declared.functions.Inst.{Inst}
use Rattle.vfa_mean.specs.declared.value.Val.{Val}
use Rattle.vfa_mean.specs.Values.{Env}
use Rattle.vfa_mean.specs.Meaning.{Gave, Gives}
use Rattle.vfa_mean.specs.Outcomes.{with_result, after_phis, breaks_call, answered, has_noundef, Edge, exit_of, parameter_types, AreArguments, IsAnswer, start_of, breaks_promise, first_block}

-- Into p b is before the phis of block b, which is entered from block p, or from none where the function begins. At b i is
-- before the instruction of this number in block b, and before its terminator where i is the number of its instructions.
pub data Place : Type 0 where
  Into : Option ℕ → ℕ → Place
  At : ℕ → ℕ → Place

abbrev pub is_call : Op → Bool
is_call (Op.Call _ _) = true
is_call _ = false

-- the function has this block, which has this instruction at this place
pub record IsLine (f : Function) (b : ℕ) (block : Block) (i : ℕ) (inst : Inst) : Type 0 where
  pub there : slice_get f.blocks b ≡ Some block
  pub stands : slice_get block.insts i ≡ Some inst

-- an answer is one that the call may take in the environment, and makes it give the value
pub record IsCallOf (f : Function) (env : Env) (width : Option ℕ) (place : ℕ) (call : CallOp) (answer : Val) (v : Val) : Type 0 where
  pub there : slice_get f.calls place ≡ Some call
  pub promise : breaks_call env call.args ≡ false
  pub possible : IsAnswer answer
  pub gives : answered width (has_noundef call.words) answer ≡ Gave v

pub data Moment (f : Function) : Place → Env → Type 0 where
  starts : (args : List Val) → AreArguments (parameter_types f) args → breaks_promise f.params args ≡ false
      → Moment f (Into None first_block) (start_of f.params args)
  reads : (p : Option ℕ) (b : ℕ) (block : Block) (env : Env) → Moment f (Into p b) env
      → slice_get f.blocks b ≡ Some block
      → Moment f (At b 0) (after_phis p block.phis env env)
  does : (b : ℕ) (block : Block) (i : ℕ) (inst : Inst) (env : Env) (v : Val) → Moment f (At b i) env
      → IsLine f b block i inst → is_call inst.op ≡ false → Gives inst.op env (Gave v)
      → Moment f (At b (suc i)) (with_result env inst.result v)
  calls : (b : ℕ) (block : Block) (i : ℕ) (inst : Inst) (env : Env) (v : Val) (width : Option ℕ) (place : ℕ) (call : CallOp) (answer : Val) → Moment f (At b i) env
      → IsLine f b block i inst → inst.op ≡ Op.Call width place → IsCallOf f env width place call answer v
      → Moment f (At b (suc i)) (with_result env inst.result v)
  leaves : (b : ℕ) (block : Block) (env : Env) (k : ℕ) (target : ℕ) → Moment f (At b (length block.insts)) env
      → slice_get f.blocks b ≡ Some block → exit_of block.term env ≡ Edge k target
      → Moment f (Into (Some b) target) env
