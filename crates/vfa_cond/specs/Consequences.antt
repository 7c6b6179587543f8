-- What a fact of a name says of the operands of its equation (LLVM's LazyValueInfo, getValueFromCondition and its kin). The
-- words of the operation do not matter: where one is broken the result is poison, and then the name has no number.
use Rattle.std.specs.Prelude.{ℕ, Bool, false, ◌&&◌, nat_eq, Option, Some, None, bit_and, if◌then◌else◌}
use Rattle.vfa_ir.specs.declared.operations.Bin.{Bin}
use Rattle.vfa_ir.specs.declared.operations.Cast.{Cast}
use Rattle.vfa_ir.specs.declared.operations.Op.{Op}
use Rattle.vfa_ir.specs.declared.operations.Operand.{Operand}
use Rattle.vfa_ir.specs.declared.operations.Pred.{Pred}
use Rattle.vfa_values.specs.Answers.{Answers}
use Rattle.vfa_cond.specs.declared.want.Want.{Want}
use Rattle.vfa_cond.specs.declared.consequence.BesideLiteral.{BesideLiteral}
use Rattle.vfa_cond.specs.declared.consequence.Consequence.{Consequence}
use Rattle.vfa_cond.specs.Opposites.{negated}

-- the literal among two operands, and the operand beside it; of two literals it is the second
abbrev pub beside_literal : Operand → Operand → Option BesideLiteral
beside_literal a (Operand.Literal c) = Some (record { other = a; literal = c })
beside_literal (Operand.Literal c) b = Some (record { other = b; literal = c })
beside_literal a b = None

abbrev pub is_literal : ℕ → Operand → Bool
is_literal n (Operand.Literal c) = nat_eq c n
is_literal n _ = false

-- wants this bit
abbrev pub equal_bit : {V : Type 0} → Answers V → ℕ → Want V
equal_bit answers bit = Want.Compare Pred.Eq (answers.literal 1 bit)

-- a sum with a literal: the other operand is a number that plus the literal is one of the name
abbrev pub from_sum : {V : Type 0} → ℕ → V → Option BesideLiteral → Consequence V
from_sum w d None = Consequence.Nothing
from_sum w d (Some l) = Consequence.One l.other w (Want.Moved d l.literal)

abbrev pub of_sum : {V : Type 0} → ℕ → Operand → Operand → V → Consequence V
of_sum w a b d = from_sum w d (beside_literal a b)

-- Below, v is the one number that the name can be.

-- `and i1`: both operands are true where it is true
abbrev pub both_true : {V : Type 0} → Answers V → ℕ → Operand → Operand → ℕ → Consequence V
both_true answers w a b v = if nat_eq w 1 && nat_eq v 1 then Consequence.Both a b (equal_bit answers 1) else Consequence.Nothing

-- `and` with a literal: the other operand has under the literal the bits of v, and v has no others
abbrev pub from_mask : {V : Type 0} → ℕ → ℕ → BesideLiteral → Consequence V
from_mask w v l = if nat_eq (bit_and v l.literal) v then Consequence.One l.other w (Want.Bits l.literal v) else Consequence.Contradiction

abbrev pub and_by : {V : Type 0} → Answers V → ℕ → Operand → Operand → ℕ → Option BesideLiteral → Consequence V
and_by answers w a b v None = both_true answers w a b v
and_by answers w a b v (Some l) = from_mask w v l

abbrev pub of_and : {V : Type 0} → Answers V → ℕ → Operand → Operand → ℕ → Consequence V
of_and answers w a b v = and_by answers w a b v (beside_literal a b)

-- `or i1`: both operands are false where it is false
abbrev pub of_or : {V : Type 0} → Answers V → ℕ → Operand → Operand → ℕ → Consequence V
of_or answers w a b v = if nat_eq w 1 && nat_eq v 0 then Consequence.Both a b (equal_bit answers 0) else Consequence.Nothing

-- `xor i1` with true: the other operand is the opposite
abbrev pub from_not : {V : Type 0} → Answers V → ℕ → ℕ → Option BesideLiteral → Consequence V
from_not answers w v None = Consequence.Nothing
from_not answers w v (Some l) =
    if nat_eq w 1 && nat_eq l.literal 1 then Consequence.One l.other w (equal_bit answers (if nat_eq v 0 then 1 else 0)) else Consequence.Nothing

abbrev pub of_xor : {V : Type 0} → Answers V → ℕ → Operand → Operand → ℕ → Consequence V
of_xor answers w a b v = from_not answers w v (beside_literal a b)

abbrev pub from_number : {V : Type 0} → (ℕ → Consequence V) → Option ℕ → Consequence V
from_number row None = Consequence.Nothing
from_number row (Some v) = row v

abbrev pub of_binary : {V : Type 0} → Answers V → Bin → ℕ → Operand → Operand → V → Consequence V
of_binary answers Bin.Add w a b d = of_sum w a b d
of_binary answers Bin.And w a b d = from_number (of_and answers w a b) (answers.single d)
of_binary answers Bin.Or w a b d = from_number (of_or answers w a b) (answers.single d)
of_binary answers Bin.Xor w a b d = from_number (of_xor answers w a b) (answers.single d)
of_binary answers _ w a b d = Consequence.Nothing

-- `trunc to i1`: the low bit of the operand is v
abbrev pub of_conversion : {V : Type 0} → Cast → ℕ → ℕ → Operand → ℕ → Consequence V
of_conversion Cast.Trunc from to a v = if nat_eq to 1 then Consequence.One a from (Want.Bits 1 v) else Consequence.Nothing
of_conversion _ from to a v = Consequence.Nothing

-- `icmp`: the predicate holds of the operands, or where the name is false its opposite
abbrev pub of_comparison : {V : Type 0} → Pred → ℕ → Operand → Operand → ℕ → Consequence V
of_comparison pred w a b v = Consequence.Holds a (if nat_eq v 0 then negated pred else pred) b w

-- `select i1`, of conditions: `select c, a, false` is true where both are, `select c, true, b` is false where both are
abbrev pub of_select : {V : Type 0} → Answers V → ℕ → Operand → Operand → Operand → ℕ → Consequence V
of_select answers w c a b v =
    if nat_eq w 1 then
    (if nat_eq v 1 && is_literal 0 b then Consequence.Both c a (equal_bit answers 1)
    else (if nat_eq v 0 && is_literal 1 a then Consequence.Both c b (equal_bit answers 0)
    else Consequence.Nothing))
    else Consequence.Nothing

-- what the fact d of the result of an operation says of its operands; of an operation that is not named here, nothing
abbrev pub consequence_of : {V : Type 0} → Answers V → Op → V → Consequence V
consequence_of answers (Op.Bin bin _ w a b) d = of_binary answers bin w a b d
consequence_of answers (Op.Cast cast _ from to a) d = from_number (of_conversion cast from to a) (answers.single d)
consequence_of answers (Op.Icmp pred _ w a b) d = from_number (of_comparison pred w a b) (answers.single d)
consequence_of answers (Op.Select w c a b) d = from_number (of_select answers w c a b) (answers.single d)
consequence_of answers _ d = Consequence.Nothing
