-- helper: in no public contract
-- What is put in place of operands, by the state at their place and the operands that take the place of names.
use Rattle.std.specs.Prelude.{◌≡◌, ◌<◌, ◌≤◌, if◌then◌else◌, unwrap_or, ℕ, zero, suc, Bool, false, nat_eq, Option, Some, None, List, [], ◌∷◌, length, map, slice_get, slice_index_or, ⊤}
use Rattle.std.specs.Option.{ForSome, option_map}
use Rattle.vfa_ir.specs.declared.operations.BlockId.{BlockId}
use Rattle.vfa_ir.specs.declared.operations.Op.{Op}
use Rattle.vfa_ir.specs.declared.operations.Operand.{Operand}
use Rattle.vfa_ir.specs.declared.operations.Ty.{Ty}
use Rattle.vfa_ir.specs.declared.operations.ValueId.{ValueId}
use Rattle.vfa_ir.specs.declared.functions.Block.{Block}
use Rattle.vfa_ir.specs.declared.functions.CallOp.{CallOp}
use Rattle.vfa_ir.specs.declared.functions.Function.{Function}
use Rattle.vfa_ir.specs.declared.functions.Inst.{Inst}
use Rattle.vfa_ir.specs.declared.functions.Term.{Term}
use Rattle.vfa_ir.specs.Printable.{IsPrintable}
use Rattle.vfa_ir.specs.Typed.{Typed}
use Rattle.vfa_ir.specs.Walks.{successors}
use Rattle.vfa_mean.specs.Moments.{Place, Into}
use Rattle.vfa_mean.specs.Outcomes.{type_of}
use Rattle.vfa_cond.specs.Conditions.{AreFacts}
use Rattle.vfa_walk.specs.Ready.{IsOperandOf, IsReady}
use Rattle.vfa_xfer.specs.AnyFacts.{fact_type, IsAnyFact}
use Rattle.vfa_rewrite.specs.declared.found.LineFinding.{LineFinding}
use Rattle.vfa_rewrite.specs.ByFacts.{FactState, FactTable, decision_in, findings_of}
use Rattle.vfa_rewrite.specs.Chains.{if_undecided, other_for}
use Rattle.vfa_rewrite.specs.Findings.{Decision, OneNumber, NoNumber, Undecided, Findings, AreFitting, operation_of}
use Rattle.vfa_rewrite.specs.Making.{call_place_in, call_place_within, put_at}
use Rattle.vfa_rewrite.specs.Rewritten.{argument_left, if_counted, one_fewer}

-- ---- an operand

abbrev pub decided_operand : Decision → Option Operand
decided_operand (OneNumber x) = Some (Operand.Literal x)
decided_operand NoNumber = Some Operand.Poison
decided_operand Undecided = None

-- the operand that was noted for a name
abbrev pub noted : List (Option Operand) → Operand → Option Operand
noted others (Operand.Value n) = slice_index_or others n.0 None
noted others (Operand.Literal x) = None
noted others Operand.Poison = None

-- what an operand becomes where the state is this one
abbrev pub becoming_by : List (Option Operand) → Option FactState → Ty → ℕ → Operand → Operand
becoming_by others state ty zero a = if_undecided (decision_in state ty a) a
becoming_by others state ty (suc n) a =
    if_undecided (decision_in state ty a) (elim (noted others a) [ None ↦ a | Some u ↦ becoming_by others state ty n u ])

abbrev pub put_by : Function → List (Option Operand) → Option FactState → Operand → Operand
put_by f others state (Operand.Value n) = becoming_by others state (type_of f n) (length f.values) (Operand.Value n)
put_by f others state (Operand.Literal x) = Operand.Literal x
put_by f others state Operand.Poison = Operand.Poison

-- a name is one of the function's, of a proper type
abbrev pub IsNamed : Function → Operand → Type 0
IsNamed f (Operand.Value n) = IsOperandOf f (type_of f n) (Operand.Value n)
IsNamed f (Operand.Literal x) = ⊤
IsNamed f Operand.Poison = ⊤

abbrev pub AreNamed : Function → Op → Type 0
AreNamed f (Op.Bin bin flags w a b) = IsNamed f a × IsNamed f b
AreNamed f (Op.Icmp pred samesign w a b) = IsNamed f a × IsNamed f b
AreNamed f (Op.Select w c a b) = IsNamed f c × IsNamed f a × IsNamed f b
AreNamed f (Op.Cast cast flags v w a) = IsNamed f a
AreNamed f (Op.Freeze w a) = IsNamed f a
AreNamed f (Op.Two fun w a b) = IsNamed f a × IsNamed f b
AreNamed f (Op.One fun w a strict) = IsNamed f a
AreNamed f (Op.Over over w a b) = IsNamed f a × IsNamed f b
AreNamed f (Op.Part w pair index) = ⊤
AreNamed f (Op.Assume c) = IsNamed f c
AreNamed f (Op.Call w call) = ⊤

abbrev pub IsNamedTerm : Function → Term → Type 0
IsNamedTerm f (Term.Ret w a) = IsNamed f a
IsNamedTerm f (Term.Br to) = ⊤
IsNamedTerm f (Term.CondBr c taken fallen) = IsNamed f c
IsNamedTerm f (Term.Switch w on other cases) = IsNamed f on
IsNamedTerm f Term.Unreachable = ⊤

-- what stands in place of a name is of its type
abbrev pub AreTypedOthers : Function → List (Option Operand) → Type 0
AreTypedOthers f others = (n : ValueId) (u : Operand) → slice_index_or others n.0 None ≡ Some u → IsOperandOf f (type_of f n) u

-- what putting by a state asks of the operands that take the place of names, and of the state
pub record MayPut (f : Function) (others : List (Option Operand)) (state : Option FactState) : Type 0 where
  pub of_type : AreTypedOthers f others
  pub facts : ForSome state (AreFacts fact_type IsAnyFact f)

-- ---- what putting asks of the function and of what was found out

abbrev pub AreOthers : Function → Findings → List (Option Operand) → Type 0
AreOthers f found others = (n : ℕ) → slice_index_or others n None ≡ other_for f found n

pub record IsReadyToPut (f : Function) (t : FactTable) (others : List (Option Operand)) : Type 0 where
  pub ready : IsReady f
  pub printable : IsPrintable f
  pub typed : Typed f
  pub fits : AreFitting f (findings_of f t)
  pub in_place : AreOthers f (findings_of f t) others
  pub of_type : AreTypedOthers f others

-- ---- instructions

abbrev pub worked : Option LineFinding → Op → Op
worked None op = op
worked (Some line) op = operation_of line.change op

-- ---- calls

abbrev pub call_with : (Operand → Operand) → CallOp → CallOp
call_with put call = record { callee = call.callee; words = call.words; args = map (argument_left put) call.args }

-- the call of number k as it is put at a place
abbrev pub call_at : Function → Findings → ℕ → Option Place → Option CallOp
call_at f found k None = None
call_at f found k (Some place) = option_map (call_with (put_at f found place)) (slice_get f.calls k)

abbrev pub call_in : Function → Findings → ℕ → ℕ → ℕ → Inst → Option CallOp
call_in f found k b i inst = call_at f found k (call_place_in found k b i inst)

abbrev pub call_within : Function → Findings → (ℕ → Bool) → ℕ → ℕ → Block → Option CallOp
call_within f found reached k b block = call_at f found k (call_place_within found reached k b block)

-- ---- phis

abbrev pub entry_put : Function → Findings → ℕ → Operand × BlockId → Operand
entry_put f found b e = put_at f found (Into (Some e.1.0) b) e.0

-- what is put in place of the operand of an entry, where it is one of the block p; else what was put before
abbrev pub put_if_from : ℕ → (Operand → Operand) → Operand × BlockId → Option Operand → Option Operand
put_if_from p put e before = if nat_eq e.1.0 p then Some (put e.0) else before

-- the same for the first j of some entries
pub record ArePutFrom (p : ℕ) (put : Operand → Operand) (es : List (Operand × BlockId)) (old : List (Option Operand)) (j : ℕ) (now : List (Option Operand)) : Type 0 where
  pub count : length now ≡ length old
  pub before : (i : ℕ) (e : Operand × BlockId) → i < j → slice_get es i ≡ Some e → slice_index_or now i None ≡ put_if_from p put e (slice_index_or old i None)
  pub rest : (i : ℕ) → j ≤ i → slice_index_or now i None ≡ slice_index_or old i None

abbrev pub put_or_poison : Option Operand → Operand
put_or_poison o = unwrap_or o Operand.Poison

-- the first entries of each block, as many as counted, with these operands in place of theirs
abbrev pub entries_of : List (Operand × BlockId) → List Operand → (ℕ → ℕ) → List (Operand × BlockId)
entries_of [] put count = []
entries_of (e ∷ rest) [] count = []
entries_of (e ∷ rest) (a ∷ put) count =
    if_counted (count e.1.0) ((a, e.1) ∷ entries_of rest put (one_fewer count e.1.0)) (entries_of rest put count)

-- whether an edge leads to a block
abbrev pub leads_to : Function → ℕ → ℕ → ℕ → Bool
leads_to f from k to = elim (slice_get (successors f from) k) [ None ↦ false | Some target ↦ nat_eq target to ]

-- ---- the function

abbrev pub with_body : Function → List Block → List CallOp → Function
with_body f blocks calls = record {
  name = f.name;
  lead = f.lead;
  width = f.width;
  params = f.params;
  tail = f.tail;
  values = f.values;
  blocks = blocks;
  calls = calls;
}
