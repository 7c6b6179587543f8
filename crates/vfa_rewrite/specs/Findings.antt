-- What was found out about a function before it is rewritten, at each place that runs may come to, and when it is true.
-- Whoever finds it out answers for it; here stands only what is asked.
use Rattle.std.specs.Prelude.{ℕ, suc, ◌≡◌, ◌<◌, ◌⊎◌, Bool, true, false, Some, length, slice_get, ⊤}
use Rattle.vfa_ir.specs.declared.operations.Op.{Op}
use Rattle.vfa_ir.specs.declared.operations.Operand.{Operand}
use Rattle.vfa_ir.specs.declared.operations.Ty.{Ty}
use Rattle.vfa_ir.specs.declared.functions.Block.{Block}
use Rattle.vfa_ir.specs.declared.functions.Function.{Function}
use Rattle.vfa_ir.specs.declared.functions.Inst.{Inst}
use Rattle.vfa_ir.specs.Defined.{line_count}
use Rattle.vfa_ir.specs.Printable.{PrintableInst, op_type}
use Rattle.vfa_ir.specs.Typed.{HasType}
use Rattle.vfa_word.specs.Numbers.{IsWidth}
use Rattle.vfa_mean.specs.declared.value.Val.{Val}
use Rattle.vfa_mean.specs.FreshOperands.{IsDefinedAtPlace}
use Rattle.vfa_mean.specs.Meaning.{Result, Gives, operand_a, operand_b}
use Rattle.vfa_mean.specs.Moments.{Place, At, Moment, IsLine, is_call}
use Rattle.vfa_mean.specs.Operands.{IsOperation}
use Rattle.vfa_mean.specs.Outcomes.{Edge, exit_of}
use Rattle.vfa_values.specs.Conditions.{IsType}
use Rattle.vfa_mean.specs.Values.{Env, IsValueOf, AllowsValue, operand_value}
use Rattle.vfa_rules.specs.declared.change.Change.{Change}
use Rattle.vfa_rules.specs.Results.{NarrowGives, IsAllowed, AllowsUses}
use Rattle.vfa_rewrite.specs.Rewritten.{line_of}

-- what is known of an operand at a place: it is one number or poison; it has no number, so it is poison; or nothing
pub data Decision : Type 0 where
  OneNumber : ℕ → Decision
  NoNumber : Decision
  Undecided : Decision

pub record Findings : Type 0 where
  -- a run may come to instruction i of block b, or to its terminator, if i is the number of its instructions
  pub met : ℕ → ℕ → Bool
  -- a run may take edge k of block b
  pub left : ℕ → ℕ → Bool
  -- what is known of an operand of this type
  pub decision : Place → Ty → Operand → Decision
  -- what becomes of instruction i of block b
  pub change : ℕ → ℕ → Inst → Change
  -- it may be undefined, so that it has to stay: a division or remainder whose divisor may be 0 or poison, or that may overflow
  pub may_be_undefined : ℕ → ℕ → Inst → Bool

-- ---- what a change gives

-- what the lines that stay after a change give; of an instruction that is replaced or gone what it gave before
abbrev pub StaysGiving : Change → Op → Env → Result → Type 0
StaysGiving (Change.Keep op) old env r = Gives op env r
StaysGiving (Change.Narrow op v) old env r = NarrowGives op v env r
StaysGiving (Change.Uses u) old env r = Gives old env r
StaysGiving Change.Gone old env r = Gives old env r

-- ---- operands

-- an operand of the function: a name of the type, a number of it, or poison; a name is defined on every walk to the place
abbrev pub IsTypedOperand : Function → Ty → Operand → Type 0
IsTypedOperand f ty (Operand.Value n) = HasType f ty n
IsTypedOperand f ty (Operand.Literal x) = IsValueOf ty (Val.Number x)
IsTypedOperand f ty Operand.Poison = ⊤

abbrev pub IsDefinedOperand : Function → Place → Operand → Type 0
IsDefinedOperand f place (Operand.Value n) = IsDefinedAtPlace f place n.0
IsDefinedOperand f place (Operand.Literal x) = ⊤
IsDefinedOperand f place Operand.Poison = ⊤

pub record IsUsable (f : Function) (place : Place) (ty : Ty) (a : Operand) : Type 0 where
  pub is_type : IsType ty
  pub typed : IsTypedOperand f ty a
  pub defined : IsDefinedOperand f place a

-- the operands of an operation, no call, may be used at the place
abbrev pub AreUsable : Function → Place → Op → Type 0
AreUsable f place (Op.Part w pair index) = IsUsable f place (Ty.Pair w) (Operand.Value pair)
AreUsable f place (Op.Assume c) = IsUsable f place (Ty.Int 1) c
AreUsable f place (Op.Select w c a b) = IsUsable f place (Ty.Int 1) c × IsUsable f place (Ty.Int w) a × IsUsable f place (Ty.Int w) b
AreUsable f place (Op.Bin bin flags w a b) = IsUsable f place (Ty.Int w) a × IsUsable f place (Ty.Int w) b
AreUsable f place (Op.Icmp pred samesign w a b) = IsUsable f place (Ty.Int w) a × IsUsable f place (Ty.Int w) b
AreUsable f place (Op.Cast cast flags v w a) = IsUsable f place (Ty.Int v) a
AreUsable f place (Op.Freeze w a) = IsUsable f place (Ty.Int w) a
AreUsable f place (Op.Two fun w a b) = IsUsable f place (Ty.Int w) a × IsUsable f place (Ty.Int w) b
AreUsable f place (Op.One fun w a strict) = IsUsable f place (Ty.Int w) a
AreUsable f place (Op.Over over w a b) = IsUsable f place (Ty.Int w) a × IsUsable f place (Ty.Int w) b
AreUsable f place (Op.Call width call) = ⊤

-- ---- truth

-- a decision is of the type, and holds of the value
abbrev pub IsDecisionOf : Ty → Decision → Type 0
IsDecisionOf ty (OneNumber x) = IsValueOf ty (Val.Number x)
IsDecisionOf ty NoNumber = ⊤
IsDecisionOf ty Undecided = ⊤

abbrev pub DecisionHolds : Decision → Val → Type 0
DecisionHolds (OneNumber x) v = AllowsValue v (Val.Number x)
DecisionHolds NoNumber v = v ≡ Val.Poison
DecisionHolds Undecided v = ⊤

-- the operation that does the work of an instruction after a change
abbrev pub operation_of : Change → Op → Op
operation_of (Change.Keep op) old = op
operation_of (Change.Narrow op v) old = op
operation_of (Change.Uses u) old = old
operation_of Change.Gone old = old

abbrev pub IsAssume : Op → Type 0
IsAssume (Op.Assume c) = ⊤
IsAssume op = ⊥

-- a change keeps to what its kind is for: an operation of the same type; a division at a lesser width; one of the operands
abbrev pub IsFitting : Function → Op → Change → Type 0
IsFitting f old (Change.Keep op) = (op_type op ≡ op_type old) × IsOperation op
IsFitting f old (Change.Narrow (Op.Bin bin flags w a b) v) = (op_type old ≡ Ty.Int w) × IsWidth w × IsWidth v × (v < w)
IsFitting f old (Change.Narrow op v) = ⊥
IsFitting f old (Change.Uses u) = ((u ≡ operand_a old) ⊎ (u ≡ operand_b old)) × IsTypedOperand f (op_type old) u
IsFitting f old Change.Gone = IsAssume old

pub record ChangeHolds (f : Function) (place : Place) (op : Op) (change : Change) : Type 0 where
  pub fits : IsFitting f op change
  pub usable : AreUsable f place (operation_of change op)
  pub allows : (env : Env) → Moment f place env → (r' : Result) → StaysGiving change op env r' → IsAllowed op env r'
  pub replaced : (env : Env) → Moment f place env → AllowsUses op env change

-- each change of an operation that a run may come to holds
abbrev pub ChangesHold : Function → Findings → Type 0
ChangesHold f found = (b : ℕ) (block : Block) (i : ℕ) (inst : Inst) → IsLine f b block i inst → found.met b i ≡ true → is_call inst.op ≡ false →
    ChangeHolds f (At b i) inst.op (found.change b i inst)

-- ---- what fits

-- what a change keeps to, whether or not the facts that it was made by are true
pub record ChangeFits (f : Function) (place : Place) (op : Op) (change : Change) : Type 0 where
  pub fits : IsFitting f op change
  pub usable : AreUsable f place (operation_of change op)

-- each instruction after a change may be printed: flags are such as its operation may have, and it has a result where it had one
abbrev pub ChangesPrint : Function → Findings → Type 0
ChangesPrint f found = (b : ℕ) (block : Block) (i : ℕ) (inst : Inst) → IsLine f b block i inst → found.met b i ≡ true → is_call inst.op ≡ false →
    PrintableInst f (line_of inst.result (operation_of (found.change b i inst) inst.op))

-- What findings keep to, whether or not they are true: numbers are of the operand's type, changes fit and may be printed, the
-- places that runs may come to stand at the front of a block, and edges are left behind a terminator that is met.
pub record AreFitting (f : Function) (found : Findings) : Type 0 where
  pub of_type : (place : Place) (ty : Ty) (a : Operand) → IsType ty → IsTypedOperand f ty a → IsDecisionOf ty (found.decision place ty a)
  pub change : (b : ℕ) (block : Block) (i : ℕ) (inst : Inst) → IsLine f b block i inst → found.met b i ≡ true → is_call inst.op ≡ false →
      ChangeFits f (At b i) inst.op (found.change b i inst)
  pub prints : ChangesPrint f found
  -- a call is kept
  pub call : (b : ℕ) (block : Block) (i : ℕ) (inst : Inst) → IsLine f b block i inst → is_call inst.op ≡ true → found.change b i inst ≡ Change.Keep inst.op
  pub met_before : (b i : ℕ) → i < line_count f b → found.met b (suc i) ≡ true → found.met b i ≡ true
  pub left_behind : (b k : ℕ) → found.left b k ≡ true → found.met b (line_count f b) ≡ true

-- ---- what is true

pub record AreTrue (f : Function) (found : Findings) : Type 0 where
  pub met : (b i : ℕ) (env : Env) → Moment f (At b i) env → found.met b i ≡ true
  pub left : (b : ℕ) (block : Block) (env : Env) (k target : ℕ) → Moment f (At b (length block.insts)) env →
      slice_get f.blocks b ≡ Some block → exit_of block.term env ≡ Edge k target → found.left b k ≡ true
  pub of_type : (place : Place) (ty : Ty) (a : Operand) → IsType ty → IsTypedOperand f ty a → IsDecisionOf ty (found.decision place ty a)
  pub decision : (place : Place) (ty : Ty) (a : Operand) (env : Env) → IsType ty → IsTypedOperand f ty a → Moment f place env →
      DecisionHolds (found.decision place ty a) (operand_value env a)
  pub change : ChangesHold f found
  -- a call is kept
  pub call : (b : ℕ) (block : Block) (i : ℕ) (inst : Inst) → IsLine f b block i inst → is_call inst.op ≡ true → found.change b i inst ≡ Change.Keep inst.op
