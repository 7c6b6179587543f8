-- What an instruction that is changed may give, and that the instruction as it was allows it.
use Rattle.std.specs.Prelude.{◌≡◌, ℕ, IfSome, ⊤}
use Rattle.vfa_ir.specs.Operands.{no_cast_flags}
use Rattle.vfa_ir.specs.declared.operations.Bin.{Bin}
use Rattle.vfa_ir.specs.declared.operations.Cast.{Cast}
use Rattle.vfa_ir.specs.declared.operations.Flags.{Flags}
use Rattle.vfa_ir.specs.declared.operations.Op.{Op}
use Rattle.vfa_ir.specs.declared.operations.Operand.{Operand}
use Rattle.vfa_ir.specs.declared.operations.Ty.{Ty}
use Rattle.vfa_mean.specs.declared.value.Val.{Val}
use Rattle.vfa_mean.specs.Values.{Env, operand_value, AllowsValue}
use Rattle.vfa_mean.specs.Laws.{AllowsResult}
use Rattle.vfa_mean.specs.Meaning.{Result, Undefined, Gave, Allowed, Gives, of_one, binary, operand_a, operand_b, operand_c}
use Rattle.vfa_mean.specs.Rows.{convert}
use Rattle.vfa_values.specs.Conditions.{IsOf}
use Rattle.vfa_values.specs.Operands.{AreOperandFacts, EachOperand}
use Rattle.vfa_rules.specs.declared.change.Change.{Change}
use Rattle.vfa_rules.specs.declared.change.OverflowCall.{OverflowCall}
use Rattle.vfa_rules.specs.Facts.{type_of_parts, AreCells, PartsHold}
use Rattle.vfa_rules.specs.Order.{Known}

-- ---- facts for an instruction

-- the facts are of the types of the operands that the operation has; for a part of an overflow intrinsic's pair they are of
-- the types of the intrinsic's operands too
abbrev pub AreCallFacts : Known → Op → Type 0
AreCallFacts k (Op.Part w pair index) =
    IfSome k.call (λ call. IsOf type_of_parts AreCells (Ty.Int w) k.a × IsOf type_of_parts AreCells (Ty.Int w) k.b)
AreCallFacts k op = ⊤

pub record AreFactsFor (k : Known) (op : Op) : Type 0 where
  pub operands : AreOperandFacts type_of_parts AreCells op k.a k.b k.c
  pub call_operands : AreCallFacts k op

-- the facts hold of the values that the operands have; and a pair is one that its overflow intrinsic gives of the values that
-- its operands have, of which the facts hold too
abbrev pub CallHolds : Known → Op → Env → Type 0
CallHolds k (Op.Part w pair index) env = IfSome k.call (λ (call : OverflowCall).
    PartsHold k.a (operand_value env call.a)
    × PartsHold k.b (operand_value env call.b)
    × Gives (Op.Over call.over w call.a call.b) env (Gave (env pair.0)))
CallHolds k op env = ⊤

pub record FactsHold (k : Known) (op : Op) (env : Env) : Type 0 where
  pub operands : EachOperand op
      (λ _. PartsHold k.a (operand_value env (operand_a op)))
      (λ _. PartsHold k.b (operand_value env (operand_b op)))
      (λ _. PartsHold k.c (operand_value env (operand_c op)))
  pub call_operands : CallHolds k op env

-- ---- what an instruction gives after a change

-- the result extended to width w by zeros
abbrev pub Extended : ℕ → ℕ → Result → Result → Type 0
Extended v w Undefined r = r ≡ Undefined
Extended v w (Gave q) r = Allowed (of_one (convert Cast.Zext no_cast_flags v w) q) r

-- both numbers are truncated to width v, the operation is done there, and its result is extended to width w
pub record NarrowedGives (bin : Bin) (flags : Flags) (v w : ℕ) (x y : Val) (r : Result) : Type 0 where
  pub first : Val
  pub second : Val
  pub middle : Result
  pub first_truncated : Allowed (of_one (convert Cast.Trunc no_cast_flags w v) x) (Gave first)
  pub second_truncated : Allowed (of_one (convert Cast.Trunc no_cast_flags w v) y) (Gave second)
  pub done_narrow : Allowed (binary bin flags v first second) middle
  pub extended : Extended v w middle r

abbrev pub NarrowGives : Op → ℕ → Env → Result → Type 0
NarrowGives (Op.Bin bin flags w a b) v env r = NarrowedGives bin flags v w (operand_value env a) (operand_value env b) r
NarrowGives op v env r = ⊥

-- the results after a change: of the operation that it keeps; of the narrowed one; the operand's value; an `assume` that is
-- not undefined gives 1, and so does one that is left out
abbrev pub ChangeGives : Change → Env → Result → Type 0
ChangeGives (Change.Keep op) env r = Gives op env r
ChangeGives (Change.Narrow op v) env r = NarrowGives op v env r
ChangeGives (Change.Uses u) env r = r ≡ Gave (operand_value env u)
ChangeGives Change.Gone env r = r ≡ Gave (Val.Number 1)

-- a result that the operation may give, and that allows the other
pub record IsAllowed (op : Op) (env : Env) (r' : Result) : Type 0 where
  pub result : Result
  pub gives : Gives op env result
  pub allows : AllowsResult result r'

-- Each result after the change is allowed by one before it.
pub record AllowsChange (op : Op) (env : Env) (change : Change) : Type 0 where
  pub each : (r' : Result) → ChangeGives change env r' → IsAllowed op env r'

-- Each value that the operation may give allows that of the operand that takes its place.
abbrev pub AllowsUses : Op → Env → Change → Type 0
AllowsUses op env (Change.Uses u) = (v : Val) → Gives op env (Gave v) → AllowsValue v (operand_value env u)
AllowsUses op env _ = ⊤

-- The condition of an `assume` is true, or poison.
abbrev pub IsAssumed : Op → Env → Type 0
IsAssumed (Op.Assume c) env = AllowsValue (operand_value env c) (Val.Number 1)
IsAssumed _ env = ⊥

-- What goes is an `assume` whose condition is true, or poison.
abbrev pub AllowsDropped : Op → Env → Change → Type 0
AllowsDropped op env Change.Gone = IsAssumed op env
AllowsDropped op env _ = ⊤

pub record IsSoundAt (op : Op) (env : Env) (change : Change) : Type 0 where
  pub results : AllowsChange op env change
  pub replaced : AllowsUses op env change
  pub dropped : AllowsDropped op env change

-- In each environment in which the facts hold, what the instruction gives after the change is allowed by what it gives before.
abbrev pub IsSound : Known → Op → Change → Type 0
IsSound k op change = (env : Env) → FactsHold k op env → IsSoundAt op env change
