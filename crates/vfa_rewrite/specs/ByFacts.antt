-- What a table of facts and the rules on single instructions find out about a function.
use Rattle.std.specs.Prelude.{ℕ, ◌-◌, ◌^◌, Bool, true, false, not, ◌&&◌, ◌||◌, is_some, Option, Some, None, slice_get}
use Rattle.vfa_ir.specs.declared.operations.Bin.{Bin}
use Rattle.vfa_ir.specs.declared.operations.Op.{Op}
use Rattle.vfa_ir.specs.declared.operations.Operand.{Operand}
use Rattle.vfa_ir.specs.declared.operations.Ty.{Ty}
use Rattle.vfa_ir.specs.declared.functions.Function.{Function}
use Rattle.vfa_ir.specs.declared.functions.Inst.{Inst}
use Rattle.vfa_ir.specs.Defined.{line_count}
use Rattle.vfa_cfg.specs.declared.listing.Edge.{Edge}
use Rattle.vfa_fact.specs.declared.cell.Parts.{Parts}
use Rattle.vfa_fact.specs.Cells.{CellValue, in_cell}
use Rattle.vfa_fact.specs.declared.numbers.Numbers.{Numbers}
use Rattle.vfa_mean.specs.Meaning.{operand_a, operand_b, operand_c}
use Rattle.vfa_mean.specs.Moments.{Place, At}
use Rattle.vfa_cond.specs.States.{AbstractState}
use Rattle.vfa_walk.specs.Passes.{followed}
use Rattle.vfa_walk.specs.Leaving.{along_edge, edges_out}
use Rattle.vfa_walk.specs.Stepping.{fact_of, sides_type, third_type, is_division}
use Rattle.vfa_walk.specs.Tables.{States, state_at}
use Rattle.vfa_xfer.specs.declared.any_fact.AnyFact.{AnyFact}
use Rattle.vfa_xfer.specs.Constants.{single_in}
use Rattle.vfa_xfer.specs.Transfers.{fact_answers}
use Rattle.vfa_rules.specs.declared.change.Change.{Change}
use Rattle.vfa_rules.specs.declared.change.OverflowCall.{OverflowCall}
use Rattle.vfa_rules.specs.Order.{Known, changed}
use Rattle.vfa_rules.specs.Uses.{overflow_call, known_in}
use Rattle.vfa_rules.specs.Facts.{number_cell}
use Rattle.vfa_rewrite.specs.Findings.{Decision, OneNumber, NoNumber, Undecided, Findings}

-- a state of facts, and a table of them
abbrev pub FactState : Type 0
FactState = AbstractState AnyFact

abbrev pub FactTable : Type 0
FactTable = States AnyFact

-- the state of the table before an instruction, a terminator or phis; none where no run comes to
abbrev pub fact_state : Function → FactTable → Place → Option FactState
fact_state f t place = state_at fact_answers f t place

-- ---- operands

abbrev pub one_or_undecided : Option ℕ → Decision
one_or_undecided (Some x) = OneNumber x
one_or_undecided None = Undecided

abbrev pub decided_by : Option Numbers → Option ℕ → Decision
decided_by None only = NoNumber
decided_by (Some n) only = one_or_undecided only

-- what the fact of an operand decides; a pair is not decided
abbrev pub decision_of : Parts → Decision
decision_of (Parts.One c) = decided_by c.numbers (single_in c)
decision_of (Parts.Two c d) = Undecided

abbrev pub decision_in : Option FactState → Ty → Operand → Decision
decision_in None ty a = Undecided
decision_in (Some s) ty a = decision_of (fact_of fact_answers s ty a).parts

-- ---- instructions

-- the operands a and b that the rules ask for: those of the operation, and for a part of the pair of an overflow intrinsic
-- those of the intrinsic
abbrev pub first_known : Option OverflowCall → Op → Operand
first_known (Some call) op = call.a
first_known None op = operand_a op

abbrev pub second_known : Option OverflowCall → Op → Operand
second_known (Some call) op = call.b
second_known None op = operand_b op

abbrev pub known_type : Op → Ty
known_type (Op.Part w pair index) = Ty.Int w
known_type op = sides_type op

abbrev pub facts_known : Function → FactState → Inst → Known
facts_known f s inst = known_in f inst
    (fact_of fact_answers s (known_type inst.op) (first_known (overflow_call f inst.op) inst.op)).parts
    (fact_of fact_answers s (known_type inst.op) (second_known (overflow_call f inst.op) inst.op)).parts
    (fact_of fact_answers s (third_type inst.op) (operand_c inst.op)).parts

-- what the rules make of an instruction
abbrev pub change_in : Function → Option FactState → Inst → Change
change_in f None inst = Change.Keep inst.op
change_in f (Some s) inst = changed (facts_known f s inst) inst.op

-- ---- divisions that may be undefined

abbrev pub is_signed_division : Bin → Bool
is_signed_division Bin.Sdiv = true
is_signed_division Bin.Srem = true
is_signed_division bin = false

-- the divisor may be poison or 0
abbrev pub may_divide_by_zero : CellValue → Bool
may_divide_by_zero divisor = not divisor.never_poison || in_cell divisor 0

-- the divisor may be -1, and the dividend poison or the least signed value
abbrev pub may_overflow : ℕ → CellValue → CellValue → Bool
may_overflow w dividend divisor = in_cell divisor (2 ^ w - 1) && (not dividend.never_poison || in_cell dividend (2 ^ (w - 1)))

abbrev pub undefined_by : Bin → ℕ → CellValue → CellValue → Bool
undefined_by bin w dividend divisor =
    is_division bin && (may_divide_by_zero divisor || is_signed_division bin && may_overflow w dividend divisor)

abbrev pub undefined_in : FactState → Op → Bool
undefined_in s (Op.Bin bin flags w a b) = undefined_by bin w
    (number_cell (fact_of fact_answers s (Ty.Int w) a).parts)
    (number_cell (fact_of fact_answers s (Ty.Int w) b).parts)
undefined_in s op = false

abbrev pub may_be_undefined_in : Option FactState → Op → Bool
may_be_undefined_in None op = false
may_be_undefined_in (Some s) op = undefined_in s op

-- ---- edges

-- the state behind the edge of this number of a block; none where no run takes it
abbrev pub edge_state : Function → Option FactState → Option Edge → Option FactState
edge_state f end None = None
edge_state f end (Some e) = followed (along_edge fact_answers f e) end

-- ---- what is found out

abbrev pub findings_of : Function → FactTable → Findings
findings_of f t = record {
  met = λ b i. is_some (fact_state f t (At b i));
  left = λ b k. is_some (edge_state f (fact_state f t (At b (line_count f b))) (slice_get (edges_out f b) k));
  decision = λ place ty a. decision_in (fact_state f t place) ty a;
  change = λ b i inst. change_in f (fact_state f t (At b i)) inst;
  may_be_undefined = λ b i inst. may_be_undefined_in (fact_state f t (At b i)) inst.op;
}
