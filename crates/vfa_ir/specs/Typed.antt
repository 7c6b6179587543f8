-- Which functions are well typed (LLVM Language Reference, "Instruction Reference": the syntax and arguments of each
-- instruction): each name that is used has the type that is written there or needed.
use Rattle.std.specs.Prelude.{◌≡◌, ◌<◌, ℕ, All, map, slice_get, IsSomeAnd, nat_eq, ⊤}
use Rattle.std.specs.List.{IsDistinct}
use Rattle.vfa_ir.specs.declared.operations.Cast.{Cast}
use Rattle.vfa_ir.specs.declared.operations.Op.{Op}
use Rattle.vfa_ir.specs.declared.operations.Operand.{Operand}
use Rattle.vfa_ir.specs.declared.operations.Ty.{Ty}
use Rattle.vfa_ir.specs.declared.operations.ValueId.{ValueId}
use Rattle.vfa_ir.specs.declared.functions.Block.{Block}
use Rattle.vfa_ir.specs.declared.functions.Function.{Function}
use Rattle.vfa_ir.specs.declared.functions.Inst.{Inst}
use Rattle.vfa_ir.specs.declared.functions.Phi.{Phi}
use Rattle.vfa_ir.specs.declared.functions.Term.{Term}

abbrev pub HasType : Function → Ty → ValueId → Type 0
HasType f ty v = IsSomeAnd (slice_get f.values v.0) (λ x. x.ty ≡ ty)

-- a literal and `poison` are of the type that is written
abbrev pub IsOfType : Function → Ty → Operand → Type 0
IsOfType f ty (Operand.Value v) = HasType f ty v
IsOfType f ty (Operand.Literal _) = ⊤
IsOfType f ty Operand.Poison = ⊤

-- "zext .. to", "sext .. to": to a greater width; "trunc .. to": to a lesser width
abbrev pub Converts : Cast → ℕ → ℕ → Type 0
Converts Cast.Zext from to = from < to
Converts Cast.Sext from to = from < to
Converts Cast.Trunc from to = to < from

-- both operands are numbers of this width
pub record AreOfWidth (f : Function) (width : ℕ) (a b : Operand) : Type 0 where
  pub first : IsOfType f (Ty.Int width) a
  pub second : IsOfType f (Ty.Int width) b

-- each argument of a call has the type that is written
abbrev pub TypedCall : Function → ℕ → Type 0
TypedCall f call = IsSomeAnd (slice_get f.calls call) (λ c. All (λ a. IsOfType f (Ty.Int a.width) a.value) c.args)

abbrev pub TypedOp : Function → Op → Type 0
TypedOp f (Op.Bin _ _ width a b) = AreOfWidth f width a b
TypedOp f (Op.Icmp _ _ width a b) = AreOfWidth f width a b
TypedOp f (Op.Select width c a b) = IsOfType f (Ty.Int 1) c × AreOfWidth f width a b
TypedOp f (Op.Cast cast _ from to a) = IsOfType f (Ty.Int from) a × Converts cast from to
TypedOp f (Op.Freeze width a) = IsOfType f (Ty.Int width) a
TypedOp f (Op.Two _ width a b) = AreOfWidth f width a b
TypedOp f (Op.One _ width a _) = IsOfType f (Ty.Int width) a
TypedOp f (Op.Over _ width a b) = AreOfWidth f width a b
TypedOp f (Op.Part width pair _) = HasType f (Ty.Pair width) pair
TypedOp f (Op.Assume c) = IsOfType f (Ty.Int 1) c
TypedOp f (Op.Call _ call) = TypedCall f call

abbrev pub TypedPhi : Function → Phi → Type 0
TypedPhi f p = All (λ e. IsOfType f (Ty.Int p.width) e.0) p.entries

abbrev pub TypedInst : Function → Inst → Type 0
TypedInst f i = TypedOp f i.op

-- "ret": the type is the function's; "switch": no two cases are equal
abbrev pub TypedTerm : Function → Term → Type 0
TypedTerm f (Term.Ret width a) = (width ≡ f.width) × IsOfType f (Ty.Int width) a
TypedTerm f (Term.Br _) = ⊤
TypedTerm f (Term.CondBr c _ _) = IsOfType f (Ty.Int 1) c
TypedTerm f (Term.Switch width on _ cases) = IsOfType f (Ty.Int width) on × IsDistinct nat_eq (map (λ c. c.0) cases)
TypedTerm f Term.Unreachable = ⊤

pub record TypedBlock (f : Function) (b : Block) : Type 0 where
  pub phis : All (TypedPhi f) b.phis
  pub instructions : All (TypedInst f) b.insts
  pub terminator : TypedTerm f b.term

abbrev pub Typed : Function → Type 0
Typed f = All (TypedBlock f) f.blocks
