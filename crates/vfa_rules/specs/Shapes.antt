-- What a changed instruction looks like: it is printable and well typed again, of the type that it had, on operands that
-- it had. An operation in place of a part of an overflow intrinsic's pair has the intrinsic's operands.
use Rattle.std.specs.Prelude.{◌≡◌, ◌<◌, ℕ, List, Contains, IfSome, ⊤}
use Rattle.vfa_ir.specs.Operands.{operands_of, pair_of_width}
use Rattle.vfa_ir.specs.Printable.{PrintableOp, AreOperands, op_type}
use Rattle.vfa_ir.specs.Typed.{TypedOp, AreOfWidth}
use Rattle.vfa_ir.specs.declared.functions.Function.{Function}
use Rattle.vfa_ir.specs.declared.operations.Op.{Op}
use Rattle.vfa_ir.specs.declared.operations.Operand.{Operand}
use Rattle.vfa_ir.specs.declared.operations.Ty.{Ty}
use Rattle.vfa_word.specs.Numbers.{IsWidth}
use Rattle.vfa_rules.specs.declared.change.Change.{Change}
use Rattle.vfa_rules.specs.declared.change.OverflowCall.{OverflowCall}
use Rattle.vfa_rules.specs.Order.{Known}

-- the overflow intrinsic of a part has operands of the width
abbrev pub FitsCall : Function → Known → Op → Type 0
FitsCall f k (Op.Part w pair index) = IfSome k.call (λ (c : OverflowCall). AreOperands f w c.a c.b × AreOfWidth f w c.a c.b)
FitsCall f k op = ⊤

-- an operation that is printable and well typed in the function
pub record IsFitting (f : Function) (k : Known) (op : Op) : Type 0 where
  pub printable : PrintableOp f op
  pub typed : TypedOp f op
  pub call : FitsCall f k op

-- the operands are those of the operation; of a part those of its overflow intrinsic
abbrev pub HasOperandsOf : Function → Known → Op → Op → Type 0
HasOperandsOf f k (Op.Part w pair index) (Op.Part w' pair' index') = Op.Part w pair index ≡ Op.Part w' pair' index'
HasOperandsOf f k (Op.Part w pair index) op' = IfSome k.call (λ (c : OverflowCall). operands_of f op' ≡ pair_of_width w c.a c.b)
HasOperandsOf f k op op' = operands_of f op' ≡ operands_of f op

-- an operation in its place
pub record IsInPlaceOf (f : Function) (k : Known) (op op' : Op) : Type 0 where
  pub printable : PrintableOp f op'
  pub typed : TypedOp f op'
  pub same_type : op_type op' ≡ op_type op
  pub operands : HasOperandsOf f k op op'

-- the width is less than that of the operation
abbrev pub IsNarrower : Op → ℕ → Type 0
IsNarrower (Op.Bin _ _ w _ _) v = IsWidth v × (v < w)
IsNarrower _ v = ⊥

abbrev pub FitsChange : Function → Known → Op → Change → Type 0
FitsChange f k op (Change.Keep op') = IsInPlaceOf f k op op'
FitsChange f k op (Change.Narrow op' v) = IsInPlaceOf f k op op' × IsNarrower op' v
FitsChange f k op (Change.Uses u) = Contains (operands_of f op) (op_type op, u)
FitsChange f k op Change.Gone = ⊤
