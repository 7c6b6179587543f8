-- helper: in no public contract
-- Marks as a program makes them: functions of what was found out, of the blocks that are reached, and of the names that are used.
use Rattle.std.specs.Prelude.{ℕ, zero, suc, nat_eq, Bool, true, false, not, ◌&&◌, ◌||◌, if◌then◌else◌, Option, Some, None, List, [], ◌∷◌, ◌++◌, length, slice_get}
use Rattle.vfa_ir.specs.declared.operations.Op.{Op}
use Rattle.vfa_ir.specs.declared.operations.Operand.{Operand}
use Rattle.vfa_ir.specs.declared.operations.Ty.{Ty}
use Rattle.vfa_ir.specs.declared.operations.ValueId.{ValueId}
use Rattle.vfa_ir.specs.declared.functions.Block.{Block}
use Rattle.vfa_ir.specs.declared.functions.Function.{Function}
use Rattle.vfa_ir.specs.declared.functions.Inst.{Inst}
use Rattle.vfa_ir.specs.declared.functions.Value.{Value}
use Rattle.vfa_mean.specs.Moments.{Place, At}
use Rattle.vfa_mean.specs.Outcomes.{type_of}
use Rattle.vfa_rules.specs.declared.change.Change.{Change}
use Rattle.vfa_rules.specs.Uses.{first_found, is_result}
use Rattle.vfa_walk.specs.Stepping.{insts_of}
use Rattle.vfa_rewrite.specs.Chains.{becoming, itself}
use Rattle.vfa_rewrite.specs.Findings.{Findings, operation_of}
use Rattle.vfa_rewrite.specs.Marks.{fresh_name, unnamed}
use Rattle.vfa_rewrite.specs.Rewritten.{Marks, with_numbers}

abbrev pub line_at : Function → ℕ → ℕ → Option Inst
line_at f b i = slice_get (insts_of f b) i

-- ---- operands

-- what is put in place of an operand: a name becomes what the facts of the place and its chain say, by its own type; numbers and
-- poison are what they are
abbrev pub put_at : Function → Findings → Place → Operand → Operand
put_at f found place (Operand.Value n) = becoming f found place (type_of f n) (length f.values) (Operand.Value n)
put_at f found place (Operand.Literal x) = Operand.Literal x
put_at f found place Operand.Poison = Operand.Poison

-- where a call is put, if it is: at the line that makes it, where a run may come to it
abbrev pub makes_call : ℕ → Op → Bool
makes_call k (Op.Call width call) = nat_eq call k
makes_call k op = false

abbrev pub call_place_in : Findings → ℕ → ℕ → ℕ → Inst → Option Place
call_place_in found k b i inst = if found.met b i && makes_call k inst.op then Some (At b i) else None

abbrev pub call_place_within : Findings → (ℕ → Bool) → ℕ → ℕ → Block → Option Place
call_place_within found reached k b block =
    if reached b then first_found itself (with_numbers (call_place_in found k b) 0 block.insts) else None

abbrev pub call_place : Function → Findings → (ℕ → Bool) → ℕ → Option Place
call_place f found reached k = first_found itself (with_numbers (call_place_within found reached k) 0 f.blocks)

abbrev pub put_if : Function → Findings → Option Place → Operand → Operand
put_if f found None a = a
put_if f found (Some place) a = put_at f found place a

abbrev pub put_call_at : Function → Findings → (ℕ → Bool) → ℕ → Operand → Operand
put_call_at f found reached k = put_if f found (call_place f found reached k)

-- ---- the first step: all lines that runs may come to stay, each as the operation that does its work

abbrev pub work_at : Function → Findings → ℕ → ℕ → Change
work_at f found b i = elim (line_at f b i) [ None ↦ Change.Gone | Some inst ↦ Change.Keep (operation_of (found.change b i inst) inst.op) ]

abbrev pub first_marks : Function → Findings → (ℕ → Bool) → Marks
first_marks f found reached = record {
  met = found.met;
  left = found.left;
  reached = reached;
  keeps = λ n. true;
  stays = λ b i. true;
  put = put_at f found;
  put_call = put_call_at f found reached;
  change = work_at f found;
  fresh = λ b i k. 0;
  added = [];
}

-- ---- lines that have to stay

abbrev pub has_effect : Op → Bool → Bool
has_effect (Op.Call width call) undefined = true
has_effect (Op.Assume c) undefined = true
has_effect (Op.Bin bin flags w a b) undefined = undefined
has_effect op undefined = false

abbrev pub is_gone : Change → Bool
is_gone Change.Gone = true
is_gone (Change.Keep op) = false
is_gone (Change.Narrow op v) = false
is_gone (Change.Uses u) = false

abbrev pub must_stay : Op → Change → Bool → Bool
must_stay op change undefined = has_effect op undefined && not (is_gone change)

abbrev pub must_stay_at : Function → Findings → ℕ → ℕ → Bool
must_stay_at f found b i =
    elim (line_at f b i) [ None ↦ false | Some inst ↦ must_stay inst.op (found.change b i inst) (found.may_be_undefined b i inst) ]

-- ---- names that narrowing adds

abbrev pub width_by : Change → Option ℕ
width_by (Change.Narrow op v) = Some v
width_by (Change.Keep op) = None
width_by (Change.Uses u) = None
width_by Change.Gone = None

abbrev pub width_in : Findings → ℕ → ℕ → ℕ → Inst → Option ℕ
width_in found n b i inst = if is_result n inst.result && found.met b i then width_by (found.change b i inst) else None

abbrev pub width_within : Findings → (ℕ → Bool) → ℕ → ℕ → Block → Option ℕ
width_within found reached n b block =
    if reached b then first_found itself (with_numbers (width_in found n b) 0 block.insts) else None

-- the width to which the instruction is narrowed that gives a name, if it is
abbrev pub narrowed_width : Function → Findings → (ℕ → Bool) → ℕ → Option ℕ
narrowed_width f found reached n = first_found itself (with_numbers (width_within found reached n) 0 f.blocks)

abbrev pub added_type : Option ℕ → Ty
added_type None = Ty.Int 1
added_type (Some v) = Ty.Int v

abbrev pub three : Ty → List Value
three ty = unnamed ty ∷ unnamed ty ∷ unnamed ty ∷ []

-- those of the first so many names
abbrev pub added_for : Function → Findings → (ℕ → Bool) → ℕ → List Value
added_for f found reached zero = []
added_for f found reached (suc n) = added_for f found reached n ++ three (added_type (narrowed_width f found reached n))

-- ---- the marks

abbrev pub change_at : Function → Findings → ℕ → ℕ → Change
change_at f found b i = elim (line_at f b i) [ None ↦ Change.Gone | Some inst ↦ found.change b i inst ]

abbrev pub is_kept_result : (ℕ → Bool) → Option ValueId → Bool
is_kept_result used None = false
is_kept_result used (Some name) = used name.0

abbrev pub stays_at : Function → Findings → (ℕ → Bool) → ℕ → ℕ → Bool
stays_at f found used b i =
    elim (line_at f b i) [ None ↦ false | Some inst ↦ must_stay_at f found b i || is_kept_result used inst.result ]

abbrev pub result_number : Option ValueId → ℕ
result_number None = 0
result_number (Some name) = name.0

abbrev pub result_at : Function → ℕ → ℕ → ℕ
result_at f b i = elim (line_at f b i) [ None ↦ 0 | Some inst ↦ result_number inst.result ]

abbrev pub made_marks : Function → Findings → (ℕ → Bool) → (ℕ → Bool) → Marks
made_marks f found reached used = record {
  met = found.met;
  left = found.left;
  reached = reached;
  keeps = used;
  stays = stays_at f found used;
  put = put_at f found;
  put_call = put_call_at f found reached;
  change = change_at f found;
  fresh = λ b i k. fresh_name f (result_at f b i) k;
  added = added_for f found reached (length f.values);
}
