-- When marks are sound: what they say of places, edges, operands and lines is true of every moment of the function. Then
-- the function that is left refines the one that was read. Nothing here speaks of facts or tables.
use Rattle.std.specs.Prelude.{ℕ, ◌≡◌, ◌<◌, true, false, Option, Some, None, List, [], ◌∷◌, length, slice_get, ⊤, ◌⊎◌}
use Rattle.std.specs.List.{AllByRecursion}
use Rattle.vfa_ir.specs.declared.operations.BlockId.{BlockId}
use Rattle.vfa_ir.specs.declared.operations.Op.{Op}
use Rattle.vfa_ir.specs.declared.operations.Operand.{Operand}
use Rattle.vfa_ir.specs.declared.operations.Ty.{Ty}
use Rattle.vfa_ir.specs.declared.operations.ValueId.{ValueId}
use Rattle.vfa_ir.specs.declared.functions.Block.{Block}
use Rattle.vfa_ir.specs.declared.functions.CallArg.{CallArg}
use Rattle.vfa_ir.specs.declared.functions.CallOp.{CallOp}
use Rattle.vfa_ir.specs.declared.functions.Function.{Function}
use Rattle.vfa_ir.specs.declared.functions.Inst.{Inst}
use Rattle.vfa_ir.specs.declared.functions.Param.{Param}
use Rattle.vfa_ir.specs.declared.functions.Phi.{Phi}
use Rattle.vfa_ir.specs.declared.functions.Term.{Term}
use Rattle.vfa_ir.specs.PhisFit.{targets}
use Rattle.vfa_ir.specs.Printable.{op_type}
use Rattle.vfa_mean.specs.declared.value.Val.{Val}
use Rattle.vfa_mean.specs.Values.{Env, IsValueOf, AllowsValue, operand_value}
use Rattle.vfa_mean.specs.Meaning.{Result, Undefined, Gave, Gives}
use Rattle.vfa_mean.specs.Moments.{Place, Into, At, Moment, is_call}
use Rattle.vfa_mean.specs.Outcomes.{with_result, Edge, exit_of, first_block}
use Rattle.vfa_cond.specs.Conditions.{name_type}
use Rattle.vfa_rules.specs.declared.change.Change.{Change}
use Rattle.vfa_rewrite.specs.Rewritten.{Marks, changed, term_left, edges_of, rewritten}

-- ---- names

-- the values of the names in the function that was read, and in what is left of it: those of kept names are allowed, and
-- each is of its name's type. Of names that are not kept nothing is said
pub record Agrees (f : Function) (m : Marks) (env env' : Env) : Type 0 where
  pub allows : (n : ℕ) → m.keeps n ≡ true → AllowsValue (env n) (env' n)
  pub typed : (n : ℕ) → IsValueOf (name_type (rewritten f m) n) (env' n)

-- ---- operands

abbrev pub IsKept : Marks → Operand → Type 0
IsKept m (Operand.Value n) = m.keeps n.0 ≡ true
IsKept m (Operand.Literal x) = ⊤
IsKept m Operand.Poison = ⊤

-- an operand of what is left is of the type
abbrev pub IsOfTypeIn : Function → Ty → Operand → Type 0
IsOfTypeIn g ty (Operand.Value n) = name_type g n.0 ≡ ty
IsOfTypeIn g ty (Operand.Literal x) = IsValueOf ty (Val.Number x)
IsOfTypeIn g ty Operand.Poison = ⊤

-- at each moment at the place the second operand may stand in place of the first
abbrev pub MayStandFor : Function → Place → Operand → Operand → Type 0
MayStandFor f place a a' = (env : Env) → Moment f place env → AllowsValue (operand_value env a) (operand_value env a')

pub record StandsFor (f : Function) (m : Marks) (place : Place) (a a' : Operand) : Type 0 where
  pub allows : MayStandFor f place a a'
  pub kept : IsKept m a'

-- ---- phis

-- some edge from block p to block b is left
abbrev pub IsEntered : Function → Marks → ℕ → ℕ → Type 0
IsEntered f m b p = edges_of f m b p ≡ 0 → ⊥

pub record EntryStands (f : Function) (m : Marks) (b width : ℕ) (e : Operand × BlockId) : Type 0 where
  pub stands : StandsFor f m (Into (Some e.1.0) b) e.0 (m.put (Into (Some e.1.0) b) e.0)
  pub typed : IsOfTypeIn (rewritten f m) (Ty.Int width) (m.put (Into (Some e.1.0) b) e.0)

abbrev pub EntryIsSound : Function → Marks → ℕ → ℕ → Operand × BlockId → Type 0
EntryIsSound f m b width e = IsEntered f m b e.1.0 → EntryStands f m b width e

pub record PhiStands (f : Function) (m : Marks) (b : ℕ) (phi : Phi) : Type 0 where
  pub typed : name_type (rewritten f m) phi.result.0 ≡ Ty.Int phi.width
  pub entries : AllByRecursion (EntryIsSound f m b phi.width) phi.entries

abbrev pub PhiIsSound : Function → Marks → ℕ → Phi → Type 0
PhiIsSound f m b phi = m.keeps phi.result.0 ≡ true → PhiStands f m b phi

-- ---- instructions

-- Operations one after another come to an environment, or to none where one of them is undefined.
abbrev pub Then : Option ValueId → (Env → Option Env → Type 0) → Env → Result → Option Env → Type 0
Then name next env Undefined end = end ≡ None
Then name next env (Gave v) end = next (with_result env name v) end

abbrev pub Comes : List Inst → Env → Option Env → Type 0
Comes [] env end = end ≡ Some env
Comes (i ∷ rest) env end = (r : Result) × Gives i.op env r × Then i.result (Comes rest) env r end

-- what the lines in place of an instruction come to is allowed by the instruction: it is undefined, or gives a value after
-- which the names agree again
pub record GivesAlike (f : Function) (m : Marks) (inst : Inst) (env : Env) (end : Option Env) : Type 0 where
  pub value : Val
  pub after : Env
  pub gives : Gives inst.op env (Gave value)
  pub comes : end ≡ Some after
  pub agrees : Agrees f m (with_result env inst.result value) after

abbrev pub LineAllows : Function → Marks → Inst → Env → Option Env → Type 0
LineAllows f m inst env end = Gives inst.op env Undefined ⊎ GivesAlike f m inst env end

-- no call is dropped, and no instruction whose name is kept
abbrev pub HasNoKeptName : Marks → Option ValueId → Type 0
HasNoKeptName m None = ⊤
HasNoKeptName m (Some v) = m.keeps v.0 ≡ false

pub record MayBeDropped (m : Marks) (inst : Inst) : Type 0 where
  pub operation : is_call inst.op ≡ false
  pub unused : HasNoKeptName m inst.result

-- the lines in place of an operation are operations, and do as it does
pub record LinesStand (f : Function) (m : Marks) (b i : ℕ) (inst : Inst) : Type 0 where
  pub operations : AllByRecursion (λ line. is_call line.op ≡ false) (changed m b i inst)
  pub allows : (env env' : Env) (end : Option Env) → Moment f (At b i) env → Agrees f m env env' →
      Comes (changed m b i inst) env' end → LineAllows f m inst env end

-- a call is left, with arguments that stand for its own
pub record CallStands (f : Function) (m : Marks) (b i : ℕ) (inst : Inst) (k : ℕ) (call : CallOp) : Type 0 where
  pub stays : m.stays b i ≡ true
  pub same : m.change b i ≡ Change.Keep inst.op
  pub args : AllByRecursion (λ (a : CallArg). StandsFor f m (At b i) a.value (m.put_call k a.value)) call.args

pub record LineIsSound (f : Function) (m : Marks) (b i : ℕ) (inst : Inst) : Type 0 where
  pub dropped : m.stays b i ≡ false → MayBeDropped m inst
  pub operation : m.stays b i ≡ true → is_call inst.op ≡ false → LinesStand f m b i inst
  pub called : (width : Option ℕ) (k : ℕ) (call : CallOp) → inst.op ≡ Op.Call width k → slice_get f.calls k ≡ Some call →
      CallStands f m b i inst k call
  pub typed : (v : ValueId) → inst.result ≡ Some v → name_type (rewritten f m) v.0 ≡ op_type inst.op

-- ---- terminators

-- the operand that a terminator reads
abbrev pub term_operand : Term → Operand
term_operand (Term.Ret w a) = a
term_operand (Term.Br to) = Operand.Poison
term_operand (Term.CondBr c taken fallen) = c
term_operand (Term.Switch w on other cases) = on
term_operand Term.Unreachable = Operand.Poison

pub record TermIsSound (f : Function) (m : Marks) (b : ℕ) (block : Block) : Type 0 where
  pub allows : MayStandFor f (At b (length block.insts)) (term_operand block.term) (m.put (At b (length block.insts)) (term_operand block.term))
  -- one that is left with fewer edges may read none
  pub kept : IsKept m (term_operand (term_left m b block))

-- ---- the function

-- the blocks that edges lead to are left
abbrev pub TargetsAreLeft : Marks → ℕ → Block → Type 0
TargetsAreLeft m b block = (k : ℕ) (to : BlockId) → slice_get (targets block.term) k ≡ Some to → m.left b k ≡ true → m.reached to.0 ≡ true

pub record BlockIsSound (f : Function) (m : Marks) (b : ℕ) (block : Block) : Type 0 where
  pub phis : m.met b 0 ≡ true → AllByRecursion (PhiIsSound f m b) block.phis
  pub lines : (i : ℕ) (inst : Inst) → slice_get block.insts i ≡ Some inst → m.met b i ≡ true → LineIsSound f m b i inst
  pub term : m.met b (length block.insts) ≡ true → TermIsSound f m b block
  pub targets : TargetsAreLeft m b block

pub record AreSound (f : Function) (m : Marks) : Type 0 where
  -- each place and edge that a run comes to is met and left
  pub met : (b i : ℕ) (env : Env) → Moment f (At b i) env → m.met b i ≡ true
  pub left : (b : ℕ) (block : Block) (env : Env) (k target : ℕ) → Moment f (At b (length block.insts)) env →
      slice_get f.blocks b ≡ Some block → exit_of block.term env ≡ Edge k target → m.left b k ≡ true
  pub entry : m.reached first_block ≡ true
  pub params : AllByRecursion (λ (p : Param). p.value.0 < length f.values) f.params
  pub blocks : (b : ℕ) (block : Block) → slice_get f.blocks b ≡ Some block → m.reached b ≡ true → BlockIsSound f m b block
