-- What narrowing asks of the function and of the state.
use Rattle.std.specs.Prelude.{◌≡◌, ℕ, ⊤}
use Rattle.std.specs.Option.{ForSome}
use Rattle.vfa_ir.specs.declared.operations.Op.{Op}
use Rattle.vfa_ir.specs.declared.operations.Operand.{Operand}
use Rattle.vfa_ir.specs.declared.operations.Ty.{Ty}
use Rattle.vfa_ir.specs.declared.operations.ValueId.{ValueId}
use Rattle.vfa_ir.specs.declared.functions.Function.{Function}
use Rattle.vfa_ir.specs.Printable.{op_type, PrintableOp, IsOperand}
use Rattle.vfa_ir.specs.Typed.{TypedOp, IsOfType}
use Rattle.vfa_word.specs.Numbers.{IsWidth}
use Rattle.vfa_mean.specs.Outcomes.{type_of}
use Rattle.vfa_values.specs.Conditions.{IsOf}
use Rattle.vfa_cond.specs.declared.consequence.Consequence.{Consequence}
use Rattle.vfa_cond.specs.Equations.{equation}
use Rattle.vfa_cond.specs.States.{AbstractState}
use Rattle.vfa_cond.specs.Wants.{IsWantFor}

abbrev pub id : ℕ → ValueId
id v = record { 0 = v }

-- the type of the name of this number
abbrev pub name_type : Function → ℕ → Ty
name_type f v = type_of f (id v)

-- the operation's widths and literals lie in their ranges, and its operands and its result are of the types that it writes
pub record IsTypedEquation (f : Function) (v : ℕ) (op : Op) : Type 0 where
  pub ranges : PrintableOp f op
  pub operands : TypedOp f op
  pub result : name_type f v ≡ op_type op

abbrev pub HasTypedEquations : Function → Type 0
HasTypedEquations f = (v : ℕ) → ForSome (equation f v) (IsTypedEquation f v)

-- the operand is a name of the integer type of this width, a number of the width, or `poison`
pub record IsNumberOperand (f : Function) (w : ℕ) (x : Operand) : Type 0 where
  pub width : IsWidth w
  pub range : IsOperand f w x
  pub typed : IsOfType f (Ty.Int w) x

-- each fact is a proper value of its name's type
abbrev pub AreFacts : {V : Type 0} → (V → Ty) → (V → Type 0) → Function → AbstractState V → Type 0
AreFacts ty proper f s = (v : ℕ) → ForSome (s.fact v) (IsOf ty proper (name_type f v))

-- the operands that it names are such operands, and what is wanted of them is of their type
abbrev pub FitsConsequence : {V : Type 0} → (V → Ty) → (V → Type 0) → Function → Consequence V → Type 0
FitsConsequence ty proper f Consequence.Nothing = ⊤
FitsConsequence ty proper f Consequence.Contradiction = ⊤
FitsConsequence ty proper f (Consequence.One x w want) = IsNumberOperand f w x × IsWantFor ty proper (Ty.Int w) want
FitsConsequence ty proper f (Consequence.Both x y want) =
    IsNumberOperand f 1 x × IsNumberOperand f 1 y × IsWantFor ty proper (Ty.Int 1) want
FitsConsequence ty proper f (Consequence.Holds x pred y w) = IsNumberOperand f w x × IsNumberOperand f w y
