-- helper: in no public contract
-- What the walk through a function asks of its instructions, phis and terminators, and of states.
use Rattle.std.specs.Prelude.{◌≡◌, ◌<◌, ◌≤◌, ◌+◌, ◌^◌, All, length, ⊤}
use Rattle.std.specs.Option.{ForSome}
use Rattle.vfa_ir.specs.declared.operations.Operand.{Operand}
use Rattle.vfa_ir.specs.declared.operations.Ty.{Ty}
use Rattle.vfa_ir.specs.declared.operations.ValueId.{ValueId}
use Rattle.vfa_ir.specs.declared.functions.Block.{Block}
use Rattle.vfa_ir.specs.declared.functions.Function.{Function}
use Rattle.vfa_ir.specs.declared.functions.Inst.{Inst}
use Rattle.vfa_ir.specs.declared.functions.Phi.{Phi}
use Rattle.vfa_ir.specs.declared.functions.Term.{Term}
use Rattle.vfa_ir.specs.PhisFit.{targets}
use Rattle.vfa_ir.specs.Printable.{op_type, PrintableOp}
use Rattle.vfa_ir.specs.Typed.{HasType, TypedOp}
use Rattle.vfa_word.specs.Numbers.{IsWidth}
use Rattle.vfa_mean.specs.FreshOperands.{DefinesOnce}
use Rattle.vfa_mean.specs.Outcomes.{type_of}
use Rattle.vfa_values.specs.Conditions.{IsType}
use Rattle.vfa_cond.specs.Conditions.{IsNumberOperand, HasTypedEquations}

-- the operand is a name of the type, a literal of it, or `poison`; no literal is a pair
abbrev pub IsOperandOf : Function → Ty → Operand → Type 0
IsOperandOf f (Ty.Int w) x = IsNumberOperand f w x
IsOperandOf f (Ty.Pair w) (Operand.Value v) = IsWidth w × HasType f (Ty.Pair w) v
IsOperandOf f (Ty.Pair w) (Operand.Literal bits) = ⊥
IsOperandOf f (Ty.Pair w) Operand.Poison = IsWidth w

-- the name is one of the function's, of the type
pub record IsNameOf (f : Function) (t : Ty) (v : ValueId) : Type 0 where
  pub below : v.0 < length f.values
  pub type_is : type_of f v ≡ t
  pub width : IsType t

pub record IsReadyInst (f : Function) (i : Inst) : Type 0 where
  pub ranges : PrintableOp f i.op
  pub operands : TypedOp f i.op
  pub result : ForSome i.result (IsNameOf f (op_type i.op))

pub record IsReadyPhi (f : Function) (p : Phi) : Type 0 where
  pub result : IsNameOf f (Ty.Int p.width) p.result
  pub entries : All (λ e. IsNumberOperand f p.width e.0) p.entries

abbrev pub IsReadyTerm : Function → Term → Type 0
IsReadyTerm f (Term.Ret _ _) = ⊤
IsReadyTerm f (Term.Br _) = ⊤
IsReadyTerm f (Term.CondBr c _ _) = IsNumberOperand f 1 c
IsReadyTerm f (Term.Switch w on _ cases) = IsNumberOperand f w on × All (λ c. c.0 < 2 ^ w) cases
IsReadyTerm f Term.Unreachable = ⊤

pub record IsReadyBlock (f : Function) (b : Block) : Type 0 where
  pub phis : All (IsReadyPhi f) b.phis
  pub insts : All (IsReadyInst f) b.insts
  pub term : IsReadyTerm f b.term

-- what narrowing asks of the function
pub record IsNarrowable (f : Function) : Type 0 where
  pub equations : HasTypedEquations f
  pub once : DefinesOnce f

pub record IsReady (f : Function) : Type 0 where
  pub narrowable : IsNarrowable f
  pub params : All (λ p. IsNameOf f (type_of f p.value) p.value) f.params
  pub blocks : All (IsReadyBlock f) f.blocks

-- how many names the function has, and how many edges its blocks
pub record HasFewNames (f : Function) : Type 0 where
  pub values : length f.values ≤ 2 ^ 28
  pub edges : All (λ b. length (targets b.term) ≤ 2 ^ 28 + 1) f.blocks
