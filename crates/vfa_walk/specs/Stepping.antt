-- What an instruction makes of a state (LLVM's LazyValueInfo, solveBlockValue and its kin). A division first tells that its
-- divisor is not 0, and `llvm.assume` that its condition is true. Then the result gets the fact that the domain's transfer
-- gives from the facts of the operands. Equations that mention the result speak of its old value, so they end.
--
-- After `%q = udiv i8 %x, %y` the name %y is not 0, %q has a fact, and the equation of %q is live.
use Rattle.std.specs.Prelude.{ℕ, Bool, true, false, not, ◌&&◌, if◌then◌else◌, Option, Some, None, List, [], ◌∷◌, take, unwrap_or, slice_get}
use Rattle.std.specs.Option.{option_map}
use Rattle.std.specs.List.{list_any}
use Rattle.vfa_ir.specs.declared.operations.Bin.{Bin}
use Rattle.vfa_ir.specs.declared.operations.Op.{Op}
use Rattle.vfa_ir.specs.declared.operations.Operand.{Operand}
use Rattle.vfa_ir.specs.declared.operations.Pred.{Pred}
use Rattle.vfa_ir.specs.declared.operations.Ty.{Ty}
use Rattle.vfa_ir.specs.declared.operations.ValueId.{ValueId}
use Rattle.vfa_ir.specs.declared.functions.Function.{Function}
use Rattle.vfa_ir.specs.declared.functions.Inst.{Inst}
use Rattle.vfa_ir.specs.Defined.{op_names}
use Rattle.vfa_ir.specs.Printable.{op_type}
use Rattle.vfa_ir.specs.Words.{is_in}
use Rattle.vfa_mean.specs.Meaning.{operand_a, operand_b, operand_c}
use Rattle.vfa_mean.specs.Moments.{is_call}
use Rattle.vfa_mean.specs.Outcomes.{has_noundef}
use Rattle.vfa_values.specs.Answers.{Answers}
use Rattle.vfa_values.specs.Conditions.{width_of}
use Rattle.vfa_cond.specs.declared.want.Want.{Want}
use Rattle.vfa_cond.specs.Equations.{is_definition}
use Rattle.vfa_cond.specs.Narrowing.{Change, and_then, deepest, narrowed, narrowed_operand}
use Rattle.vfa_cond.specs.States.{AbstractState, with_fact, with_live}

-- ---- what is known of operands

-- The fact of an operand of the type. Of a name that has none nothing is known; in a checked function each operand has one.
abbrev pub fact_of : {V : Type 0} → Answers V → AbstractState V → Ty → Operand → V
fact_of answers s t (Operand.Value v) = unwrap_or (s.fact v.0) (answers.any t false)
fact_of answers s t (Operand.Literal bits) = answers.literal (width_of t) bits
fact_of answers s t Operand.Poison = answers.poison t

-- the type of the operands a and b of an operation, and that of c; i1 for those that it does not have
abbrev pub sides_type : Op → Ty
sides_type (Op.Bin _ _ w _ _) = Ty.Int w
sides_type (Op.Icmp _ _ w _ _) = Ty.Int w
sides_type (Op.Select w _ _ _) = Ty.Int w
sides_type (Op.Cast _ _ from _ _) = Ty.Int from
sides_type (Op.Freeze w _) = Ty.Int w
sides_type (Op.Two _ w _ _) = Ty.Int w
sides_type (Op.One _ w _ _) = Ty.Int w
sides_type (Op.Over _ w _ _) = Ty.Int w
sides_type (Op.Part _ _ _) = Ty.Int 1
sides_type (Op.Assume _) = Ty.Int 1
sides_type (Op.Call _ _) = Ty.Int 1

abbrev pub third_type : Op → Ty
third_type (Op.Part w _ _) = Ty.Pair w
third_type _ = Ty.Int 1

-- what an operation, no call, makes of what is known of its operands
abbrev pub transferred : {V : Type 0} → Answers V → Op → AbstractState V → V
transferred answers op s = answers.transfer op
    (fact_of answers s (sides_type op) (operand_a op))
    (fact_of answers s (sides_type op) (operand_b op))
    (fact_of answers s (third_type op) (operand_c op))

-- whether a call's words say that its result is never poison
abbrev pub promises : Function → ℕ → Bool
promises f place = elim (slice_get f.calls place) [ None ↦ false | Some call ↦ has_noundef call.words ]

-- what is known of the result of an operation; that of a call is any number
abbrev pub result_fact : {V : Type 0} → Answers V → Function → Op → AbstractState V → V
result_fact answers f (Op.Call width place) s = answers.any (op_type (Op.Call width place)) (promises f place)
result_fact answers f op s = transferred answers op s

-- ---- a name gets a new value

-- whether the instruction, no call, gives the name u its value and uses the name v
abbrev pub defines_by : Function → ℕ → ℕ → Inst → Bool
defines_by f u v i = is_definition u i && is_in v (op_names f i.op)

-- whether the equation of u mentions v
abbrev pub mentions : Function → ℕ → ℕ → Bool
mentions f u v = list_any (λ b. list_any (defines_by f u v) b.insts) f.blocks

-- the equations that mention the name end
abbrev pub ended : {V : Type 0} → Function → ℕ → AbstractState V → AbstractState V
ended f v s = record s { live = λ u. s.live u && not (mentions f u v) }

-- the name gets another value, of which this fact holds
abbrev pub redefined : {V : Type 0} → Function → ℕ → V → AbstractState V → AbstractState V
redefined f v d s = with_fact (ended f v s) v (Some d)

-- the result of an operation gets its value; where it is no call, the equation is live from then on
abbrev pub with_result : {V : Type 0} → Answers V → Function → Op → Option ValueId → AbstractState V → AbstractState V
with_result answers f op None s = s
with_result answers f op (Some v) s =
    if is_call op then redefined f v.0 (result_fact answers f op s) s
    else with_live (redefined f v.0 (result_fact answers f op s) s) v.0 true

-- ---- instructions

abbrev pub is_division : Bin → Bool
is_division Bin.Udiv = true
is_division Bin.Sdiv = true
is_division Bin.Urem = true
is_division Bin.Srem = true
is_division _ = false

-- an operand of the width is narrowed by what is wanted of it, as deep as conditions are followed
abbrev pub told : {V : Type 0} → Answers V → Function → Operand → ℕ → Want V → Change V
told answers f x w want s = narrowed_operand answers (narrowed answers f deepest) x w want s

-- the operand is this number of the width; it is another one
abbrev pub told_equal : {V : Type 0} → Answers V → Function → Operand → ℕ → ℕ → Change V
told_equal answers f x w n s = told answers f x w (Want.Compare Pred.Eq (answers.literal w n)) s

abbrev pub told_apart : {V : Type 0} → Answers V → Function → Operand → ℕ → ℕ → Change V
told_apart answers f x w n s = told answers f x w (Want.Compare Pred.Ne (answers.literal w n)) s

-- what a run that goes on behind the operation tells of its operands
abbrev pub survived : {V : Type 0} → Answers V → Function → Op → Change V
survived answers f (Op.Bin bin _ w a b) s = if is_division bin then told_apart answers f b w 0 s else Some s
survived answers f (Op.Assume c) s = told_equal answers f c 1 1 s
survived answers f _ s = Some s

-- what an instruction makes of a state; none where no run goes on behind it
abbrev pub after_inst : {V : Type 0} → Answers V → Function → Inst → Change V
after_inst answers f i s = option_map (with_result answers f i.op i.result) (survived answers f i.op s)

-- these instructions one after another
abbrev pub after_insts : {V : Type 0} → Answers V → Function → List Inst → Change V
after_insts answers f [] s = Some s
after_insts answers f (i ∷ rest) s = and_then (after_inst answers f i s) (after_insts answers f rest)

-- the instructions of a block
abbrev pub insts_of : Function → ℕ → List Inst
insts_of f b = elim (slice_get f.blocks b) [ None ↦ [] | Some block ↦ block.insts ]

-- from the entry state of a block the state before its instruction of this number; with the number of its instructions the
-- one before its terminator
abbrev pub before_line : {V : Type 0} → Answers V → Function → ℕ → ℕ → Change V
before_line answers f b i s = after_insts answers f (take i (insts_of f b)) s

abbrev pub before_end : {V : Type 0} → Answers V → Function → ℕ → Change V
before_end answers f b s = after_insts answers f (insts_of f b) s
