-- What an operand becomes, by following the operands that take its place: in `%a = and i8 %x, 15`, `%b = and i8 %a, 31`,
-- `%c = freeze i8 %b` the name %c becomes %b, and %b becomes %a.
use Rattle.std.specs.Prelude.{ℕ, zero, suc, ◌&&◌, if◌then◌else◌, Option, Some, None, ⊤}
use Rattle.vfa_ir.specs.declared.operations.Operand.{Operand}
use Rattle.vfa_ir.specs.declared.operations.Ty.{Ty}
use Rattle.vfa_ir.specs.declared.functions.Block.{Block}
use Rattle.vfa_ir.specs.declared.functions.Function.{Function}
use Rattle.vfa_ir.specs.declared.functions.Inst.{Inst}
use Rattle.vfa_ir.specs.Walks.{IsReached}
use Rattle.vfa_mean.specs.Moments.{Place, Into, At}
use Rattle.vfa_rules.specs.declared.change.Change.{Change}
use Rattle.vfa_rules.specs.Uses.{first_found, is_result}
use Rattle.vfa_rewrite.specs.Findings.{Decision, OneNumber, NoNumber, Undecided, Findings}
use Rattle.vfa_rewrite.specs.Rewritten.{with_numbers}

-- ---- the operand that takes the place of a name

abbrev pub other_by : Change → Option Operand
other_by (Change.Uses u) = Some u
other_by (Change.Keep op) = None
other_by (Change.Narrow op v) = None
other_by Change.Gone = None

-- by instruction i of block b, where it gives the name and a run may come to it
abbrev pub other_in : Findings → ℕ → ℕ → ℕ → Inst → Option Operand
other_in found n b i inst = if is_result n inst.result && found.met b i then other_by (found.change b i inst) else None

abbrev pub itself : {A : Type 0} → Option A → Option A
itself o = o

-- by an instruction of block b
abbrev pub other_within : Findings → ℕ → ℕ → Block → Option Operand
other_within found n b block = first_found itself (with_numbers (other_in found n b) 0 block.insts)

abbrev pub other_for : Function → Findings → ℕ → Option Operand
other_for f found n = first_found itself (with_numbers (other_within found n) 0 f.blocks)

abbrev pub other : Function → Findings → Operand → Option Operand
other f found (Operand.Value n) = other_for f found n.0
other f found (Operand.Literal x) = None
other f found Operand.Poison = None

-- ---- what an operand becomes

-- one number or poison, where that is decided
abbrev pub if_undecided : Decision → Operand → Operand
if_undecided (OneNumber x) a = Operand.Literal x
if_undecided NoNumber a = Operand.Poison
if_undecided Undecided a = a

-- An operand that takes the place of another is replaced in turn, n times at most. Where some walk comes to the place, each name
-- is defined on it before the one whose place it takes; so as many times as there are names are enough.
abbrev pub becoming : Function → Findings → Place → Ty → ℕ → Operand → Operand
becoming f found place ty zero a = if_undecided (found.decision place ty a) a
becoming f found place ty (suc n) a =
    if_undecided (found.decision place ty a) (elim (other f found a) [ None ↦ a | Some u ↦ becoming f found place ty n u ])

-- some walk comes to the place: to its block, or before phis to the block that theirs is entered from
abbrev pub IsWalkedTo : Function → Place → Type 0
IsWalkedTo f (Into None b) = ⊤
IsWalkedTo f (Into (Some p) b) = IsReached f p
IsWalkedTo f (At b i) = IsReached f b
