-- Fresh operands: wherever the result of an operation is defined on every walk, the operands of the operation still have
-- the values that they had when it was last done, though a phi gives its name a new value each time that its block is
-- entered (LLVM Language Reference, "Well-Formedness" and "phi Instruction"). In the loop
--
--     head:
--       %i = phi i8 [ 0, %entry ], [ %n, %head ]
--       %n = add i8 %i, 1
--       br i1 %c, label %head, label %exit
--
-- %n is defined on every walk to the branch, to the entry of head from head, and to exit. At each moment there, of whatever
-- turn, %n is %i + 1 for the value that %i has now. Just after the phi %i is new and %n of the turn before, but there %n is
-- not defined on the walk from entry.
use Rattle.std.specs.Prelude.{◌≡◌, ℕ, false, Some, None, IsTrue, nat_eq}
use Rattle.std.specs.List.{IsDistinct}
use Rattle.vfa_ir.specs.declared.operations.Op.{Op}
use Rattle.vfa_ir.specs.declared.operations.ValueId.{ValueId}
use Rattle.vfa_ir.specs.declared.functions.Block.{Block}
use Rattle.vfa_ir.specs.declared.functions.Function.{Function}
use Rattle.vfa_ir.specs.declared.functions.Inst.{Inst}
use Rattle.vfa_ir.specs.Defined.{line_count}
use Rattle.vfa_ir.specs.Printable.{ids_of}
use Rattle.vfa_ir.specs.Walks.{IsDefinedAt, is_parameter}
use Rattle.vfa_mean.specs.Values.{Env, operand_value}
use Rattle.vfa_mean.specs.Meaning.{Gave, Gives, operand_a, operand_b, operand_c}
use Rattle.vfa_mean.specs.Moments.{Place, Into, At, Moment, IsLine, is_call}

-- no name is defined twice: by parameters, phis and other instructions
abbrev pub DefinesOnce : Function → Type 0
DefinesOnce f = IsDistinct nat_eq (ids_of f)

-- The name is defined on every walk to the place. Before the phis of a block these are the walks to the end of the block
-- that it is entered from, and where the function begins parameters alone are defined.
abbrev pub IsDefinedAtPlace : Function → Place → ℕ → Type 0
IsDefinedAtPlace f (Into None b) v = IsTrue (is_parameter f v)
IsDefinedAtPlace f (Into (Some p) b) v = IsDefinedAt f p (line_count f p) v
IsDefinedAtPlace f (At b i) v = IsDefinedAt f b i v

-- the name is the result of the instruction at this place, which is an operation and no call
pub record IsResultAt (f : Function) (b i : ℕ) (inst : Inst) (v : ValueId) : Type 0 where
  pub block : Block
  pub line : IsLine f b block i inst
  pub result : inst.result ≡ Some v
  pub operation : is_call inst.op ≡ false

-- the operands of the operation have the same values in both environments
pub record HaveSameOperands (op : Op) (env env' : Env) : Type 0 where
  pub a : operand_value env (operand_a op) ≡ operand_value env' (operand_a op)
  pub b : operand_value env (operand_b op) ≡ operand_value env' (operand_b op)
  pub c : operand_value env (operand_c op) ≡ operand_value env' (operand_c op)

-- At some moment before the instruction it gave the value that its result has in env, of operands that have the same
-- values there as in env.
pub record WasGiven (f : Function) (b i : ℕ) (inst : Inst) (v : ValueId) (env : Env) : Type 0 where
  pub before : Env
  pub moment : Moment f (At b i) before
  pub gave : Gives inst.op before (Gave (env v.0))
  pub operands : HaveSameOperands inst.op before env

-- so it is of each operation, at each moment where its result is defined on every walk
abbrev pub HasFreshOperands : Function → Type 0
HasFreshOperands f = (b i : ℕ) (inst : Inst) (v : ValueId) (place : Place) (env : Env) →
    IsResultAt f b i inst v → IsDefinedAtPlace f place v.0 → Moment f place env → WasGiven f b i inst v env

-- then its value is one that the operation gives of the values that its operands have now
abbrev pub HasPresentResults : Function → Type 0
HasPresentResults f = (b i : ℕ) (inst : Inst) (v : ValueId) (place : Place) (env : Env) →
    IsResultAt f b i inst v → IsDefinedAtPlace f place v.0 → Moment f place env → Gives inst.op env (Gave (env v.0))
