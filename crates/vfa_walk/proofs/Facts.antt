-- The facts of operands are of their types.
use Rattle.std.proofs.Common.{ℕ}
use Rattle.vfa_ir.specs.declared.operations.Op.{Op}
use Rattle.vfa_ir.specs.declared.operations.Operand.{Operand}
use Rattle.vfa_ir.specs.declared.operations.Ty.{Ty}
use Rattle.vfa_ir.specs.declared.operations.ValueId.{ValueId}
use Rattle.vfa_ir.specs.declared.functions.Function.{Function}
use Rattle.vfa_ir.specs.Grammar.{IsWidth as IsWrittenWidth}
use Rattle.vfa_ir.specs.Printable.{AreOperands, PrintableOp}
use Rattle.vfa_ir.specs.Typed.{AreOfWidth, HasType, TypedOp}
use Rattle.vfa_word.specs.Numbers.{IsWidth}
use Rattle.vfa_mean.specs.Meaning.{operand_a, operand_b, operand_c}
use Rattle.vfa_values.specs.Conditions.{IsOf, IsType}
use Rattle.vfa_values.specs.Operands.{AreOperandFacts}
use Rattle.vfa_cond.specs.Conditions.{IsNumberOperand}
use Rattle.vfa_cond.proofs.Fitting.{bit_width}
use Rattle.vfa_walk.specs.Ready.{IsOperandOf}
use Rattle.vfa_walk.specs.Stepping.{sides_type, third_type}

written : (w : ℕ) → IsWrittenWidth w → IsWidth w
written w h = record { least = h.least; most = h.most }

no_operand : (f : Function) → IsNumberOperand f 1 Operand.Poison
no_operand f = record { width = bit_width; range = tt; typed = tt }

first_of_two : (f : Function) (w : ℕ) (a b : Operand) → AreOperands f w a b → AreOfWidth f w a b → IsNumberOperand f w a
first_of_two f w a b ranges typed = record { width = written w ranges.of_width; range = ranges.first; typed = typed.first }

second_of_two : (f : Function) (w : ℕ) (a b : Operand) → AreOperands f w a b → AreOfWidth f w a b → IsNumberOperand f w b
second_of_two f w a b ranges typed = record { width = written w ranges.of_width; range = ranges.second; typed = typed.second }

none_of_width : (f : Function) (w : ℕ) → IsWrittenWidth w → IsNumberOperand f w Operand.Poison
none_of_width f w h = record { width = written w h; range = tt; typed = tt }

pub first_fits : (f : Function) (op : Op) → PrintableOp f op → TypedOp f op → IsOperandOf f (sides_type op) (operand_a op)
first_fits f (Op.Bin _ _ w a b) ranges typed = first_of_two f w a b ranges.1 typed
first_fits f (Op.Icmp _ _ w a b) ranges typed = first_of_two f w a b ranges typed
first_fits f (Op.Select w c a b) ranges typed = first_of_two f w a b ranges.1 typed.1
first_fits f (Op.Cast _ _ from to a) ranges typed = record { width = written from ranges.1; range = ranges.2; typed = typed.0 }
first_fits f (Op.Freeze w a) ranges typed = record { width = written w ranges.0; range = ranges.1; typed = typed }
first_fits f (Op.Two _ w a b) ranges typed = first_of_two f w a b ranges typed
first_fits f (Op.One _ w a _) ranges typed = record { width = written w ranges.0; range = ranges.1; typed = typed }
first_fits f (Op.Over _ w a b) ranges typed = first_of_two f w a b ranges typed
first_fits f (Op.Part _ _ _) ranges typed = no_operand f
first_fits f (Op.Assume _) ranges typed = no_operand f
first_fits f (Op.Call _ _) ranges typed = no_operand f

pub second_fits : (f : Function) (op : Op) → PrintableOp f op → TypedOp f op → IsOperandOf f (sides_type op) (operand_b op)
second_fits f (Op.Bin _ _ w a b) ranges typed = second_of_two f w a b ranges.1 typed
second_fits f (Op.Icmp _ _ w a b) ranges typed = second_of_two f w a b ranges typed
second_fits f (Op.Select w c a b) ranges typed = second_of_two f w a b ranges.1 typed.1
second_fits f (Op.Cast _ _ from to a) ranges typed = none_of_width f from ranges.1
second_fits f (Op.Freeze w a) ranges typed = none_of_width f w ranges.0
second_fits f (Op.Two _ w a b) ranges typed = second_of_two f w a b ranges typed
second_fits f (Op.One _ w a _) ranges typed = none_of_width f w ranges.0
second_fits f (Op.Over _ w a b) ranges typed = second_of_two f w a b ranges typed
second_fits f (Op.Part _ _ _) ranges typed = no_operand f
second_fits f (Op.Assume _) ranges typed = no_operand f
second_fits f (Op.Call _ _) ranges typed = no_operand f

pub third_fits : (f : Function) (op : Op) → PrintableOp f op → TypedOp f op → IsOperandOf f (third_type op) (operand_c op)
third_fits f (Op.Bin _ _ w a b) ranges typed = no_operand f
third_fits f (Op.Icmp _ _ w a b) ranges typed = no_operand f
third_fits f (Op.Select w c a b) ranges typed = record { width = bit_width; range = ranges.0; typed = typed.0 }
third_fits f (Op.Cast _ _ from to a) ranges typed = no_operand f
third_fits f (Op.Freeze w a) ranges typed = no_operand f
third_fits f (Op.Two _ w a b) ranges typed = no_operand f
third_fits f (Op.One _ w a _) ranges typed = no_operand f
third_fits f (Op.Over _ w a b) ranges typed = no_operand f
third_fits f (Op.Part w pair _) ranges typed = (written w ranges.0, typed)
third_fits f (Op.Assume c) ranges typed = record { width = bit_width; range = ranges; typed = typed }
third_fits f (Op.Call _ _) ranges typed = no_operand f

module _ {V : Type 0} (ty : V → Ty) (proper : V → Type 0) where
  pub operand_facts : (op : Op) (a b c : V) → IsOf ty proper (sides_type op) a → IsOf ty proper (sides_type op) b → IsOf ty proper (third_type op) c →
      AreOperandFacts ty proper op a b c
  operand_facts (Op.Bin _ _ w _ _) a b c first second third = (first, second)
  operand_facts (Op.Icmp _ _ w _ _) a b c first second third = (first, second)
  operand_facts (Op.Select w _ _ _) a b c first second third = (first, second, third)
  operand_facts (Op.Cast _ _ from _ _) a b c first second third = first
  operand_facts (Op.Freeze w _) a b c first second third = first
  operand_facts (Op.Two _ w _ _) a b c first second third = (first, second)
  operand_facts (Op.One _ w _ _) a b c first second third = first
  operand_facts (Op.Over _ w _ _) a b c first second third = (first, second)
  operand_facts (Op.Part w _ _) a b c first second third = third
  operand_facts (Op.Assume _) a b c first second third = third
  operand_facts (Op.Call _ _) a b c first second third = tt

-- the width of an operand's type
pub operand_width : (f : Function) (t : Ty) (x : Operand) → IsOperandOf f t x → IsType t
operand_width f (Ty.Int w) x of = of.width
operand_width f (Ty.Pair w) (Operand.Value v) of = of.0
operand_width f (Ty.Pair w) (Operand.Literal bits) of = absurd of
operand_width f (Ty.Pair w) Operand.Poison of = of

-- a name that is an operand of the type is of this type
pub name_typed : (f : Function) (t : Ty) (v : ValueId) → IsOperandOf f t (Operand.Value v) → HasType f t v
name_typed f (Ty.Int w) v of = of.typed
name_typed f (Ty.Pair w) v of = of.1
