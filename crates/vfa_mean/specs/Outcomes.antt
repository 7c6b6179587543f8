-- The outcomes of a function, after the LLVM Language Reference, "Functions", "Parameter Attributes", "phi Instruction",
-- "call Instruction" and "Terminator Instructions". A run is looked at for as long as it enters at most n blocks. What the
-- functions that it calls do is not known: each call is an event that anyone may see, and takes its result from a list of
-- answers.
use Rattle.std.specs.Prelude.{ℕ, zero, suc, ◌%◌, ◌^◌, ◌≡◌, Bool, true, false, ◌&&◌, ◌||◌, nat_eq, Option, Some, None, List, [], ◌∷◌, map, codes, bytes_eq, MatchBool, slice_get, if◌then◌else◌}
use Rattle.std.specs.Option.{option_map_or}
use Rattle.std.specs.List.{list_any}
use Rattle.vfa_ir.specs.declared.operations.BlockId.{BlockId}
use Rattle.vfa_ir.specs.declared.operations.Op.{Op}
use Rattle.vfa_ir.specs.declared.operations.Operand.{Operand}
use Rattle.vfa_ir.specs.declared.operations.Ty.{Ty}
use Rattle.vfa_ir.specs.declared.operations.ValueId.{ValueId}
use Rattle.vfa_ir.specs.declared.functions.Block.{Block}
use Rattle.vfa_ir.specs.declared.functions.CallArg.{CallArg}
use Rattle.vfa_ir.specs.declared.functions.CallOp.{CallOp}
use Rattle.vfa_ir.specs.declared.functions.Function.{Function}
use Rattle.vfa_ir.specs.declared.functions.Inst.{Inst}
use Rattle.vfa_ir.specs.declared.functions.Param.{Param}
use Rattle.vfa_ir.specs.declared.functions.Phi.{Phi}
use Rattle.vfa_ir.specs.declared.functions.Term.{Term}
use Rattle.vfa_ir.specs.declared.functions.Value.{Value}
use Rattle.vfa_mean.specs.declared.value.Val.{Val}
use Rattle.vfa_mean.specs.Values.{Env, IsValueOf, operand_value}
use Rattle.vfa_mean.specs.Meaning.{Result, Undefined, Gave, Gives}

-- ---- what comes of a run

-- an argument of a call, by the width of its type and its value
pub record Passed : Type 0 where
  pub width : ℕ
  pub value : Val

-- a call that a run made
pub record Event : Type 0 where
  pub callee : List ℕ
  pub args : List Passed

-- how a run of at most n entered blocks ends: the n blocks are used up; a call has no answer; it is undefined; or it
-- returns a value
pub data End : Type 0 where
  Going : End
  Stopped : End
  Ub : End
  Returned : Val → End

-- the calls of a run in order, and its end
pub record Outcome : Type 0 where
  pub events : List Event
  pub end : End

abbrev pub only : End → Outcome
only end = record { events = []; end = end }

abbrev pub after_event : Event → Outcome → Outcome
after_event e o = record { events = e ∷ o.events; end = o.end }

-- what may come from here on in an environment, with the answers that are left
abbrev pub Ends : Type 1
Ends = Env → List Val → Outcome → Type 0

-- ---- the instructions of a block

-- the environment in which a name has a value
abbrev pub with_value : Env → ℕ → Val → Env
with_value env name v other = if nat_eq other name then v else env other

-- the environment after an instruction gave a value
abbrev pub with_result : Env → Option ValueId → Val → Env
with_result env None v = env
with_result env (Some name) v = with_value env name.0 v

-- after an instruction gave a result: undefined behaviour ends the run
abbrev pub After : Option ValueId → Ends → Env → List Val → Result → Outcome → Type 0
After name next env answers Undefined o = o ≡ only Ub
After name next env answers (Gave v) o = next (with_result env name v) answers o

-- whether the attribute `noundef` is among the words
abbrev pub has_noundef : List (List ℕ) → Bool
has_noundef words = list_any (λ word. bytes_eq word (codes "noundef")) words

abbrev pub is_poison : Val → Bool
is_poison Val.Poison = true
is_poison _ = false

-- whether an argument of a call is poison though its words promise that it is not
abbrev pub breaks_call : Env → List CallArg → Bool
breaks_call env args = list_any (λ (a : CallArg). has_noundef a.words && is_poison (operand_value env a.value)) args

abbrev pub event_of : Env → CallOp → Event
event_of env call =
    record { callee = call.callee; args = map (λ (a : CallArg). record { width = a.width; value = operand_value env a.value }) call.args }

-- an answer at a width: poison, or the number modulo 2 ^ width
abbrev pub at_width : ℕ → Val → Val
at_width w (Val.Number x) = Val.Number (x % 2 ^ w)
at_width w _ = Val.Poison

-- what an answer makes of a call: the result at its width, or undefined behaviour where the result is poison though the
-- call's words promise that it is not. A call of `void` drops its answer
abbrev pub answered : Option ℕ → Bool → Val → Result
answered None promised v = Gave Val.Poison
answered (Some w) promised v = if promised && is_poison v then Undefined else Gave (at_width w v)

-- after a call: it takes the first answer, and where none is left the run stops
abbrev pub TakesAnswer : Option ℕ → CallOp → Option ValueId → Ends → Ends
TakesAnswer width call name next env [] o = o ≡ only Stopped
TakesAnswer width call name next env (v ∷ answers) o = After name next env answers (answered width (has_noundef call.words) v) o

-- a call: undefined behaviour where an argument breaks its promise; else an event, and what comes after it
abbrev pub Calls : Option ℕ → Option CallOp → Option ValueId → Ends → Ends
Calls width None name next env answers o = o ≡ only Ub
Calls width (Some call) name next env answers o = MatchBool (breaks_call env call.args)
    (o ≡ only Ub)
    ((rest : Outcome) × TakesAnswer width call name next env answers rest × (o ≡ after_event (event_of env call) rest))

-- an instruction: a call, or an operation with every result that it may give
abbrev pub Does : List CallOp → Op → Option ValueId → Ends → Ends
Does calls (Op.Call width call) name next env answers o = Calls width (slice_get calls call) name next env answers o
Does calls op name next env answers o = (r : Result) × Gives op env r × After name next env answers r o

-- instructions one after another, and what comes next
abbrev pub Lines : List CallOp → List Inst → Ends → Ends
Lines calls [] next = next
Lines calls (i ∷ rest) next = Does calls i.op i.result (Lines calls rest next)

-- ---- the phis of a block

-- the operand that a phi has for a predecessor
abbrev pub entry_from : ℕ → List (Operand × BlockId) → Operand
entry_from p [] = Operand.Poison
entry_from p (e ∷ rest) = if nat_eq e.1.0 p then e.0 else entry_from p rest

-- the same where there may be no predecessor, as at a function's entry
abbrev pub entry_for : Option ℕ → List (Operand × BlockId) → Operand
entry_for None entries = Operand.Poison
entry_for (Some p) entries = entry_from p entries

-- all phis of a block are read for the predecessor before any is written
abbrev pub after_phis : Option ℕ → List Phi → Env → Env → Env
after_phis p [] before env = env
after_phis p (phi ∷ rest) before env =
    after_phis p rest before (with_value env phi.result.0 (operand_value before (entry_for p phi.entries)))

-- ---- the terminator

-- how a block is left: not at all, since that is undefined; with a value that is returned; or by its edge of this number
-- to this block. A conditional branch has the edges 0 for true and 1 for false, a switch 0 for its other target and then
-- one for each case
pub data Exit : Type 0 where
  Invalid : Exit
  Return : Val → Exit
  Edge : ℕ → ℕ → Exit

-- a branch on poison is undefined
abbrev pub branch_exit : Val → ℕ → ℕ → Exit
branch_exit (Val.Number c) taken fallen = if nat_eq c 0 then Edge 1 fallen else Edge 0 taken
branch_exit _ taken fallen = Invalid

-- the edge of the first case that is the number, where the cases are numbered from k on
abbrev pub case_exit : ℕ → ℕ → List (ℕ × BlockId) → ℕ → Exit
case_exit x other [] k = Edge 0 other
case_exit x other (e ∷ rest) k = if nat_eq e.0 x then Edge k e.1.0 else case_exit x other rest (suc k)

-- a switch on poison is undefined
abbrev pub switch_exit : Val → ℕ → List (ℕ × BlockId) → Exit
switch_exit (Val.Number x) other cases = case_exit x other cases 1
switch_exit _ other cases = Invalid

abbrev pub exit_of : Term → Env → Exit
exit_of (Term.Ret width a) env = Return (operand_value env a)
exit_of (Term.Br target) env = Edge 0 target.0
exit_of (Term.CondBr c taken fallen) env = branch_exit (operand_value env c) taken.0 fallen.0
exit_of (Term.Switch width on other cases) env = switch_exit (operand_value env on) other.0 cases
exit_of Term.Unreachable env = Invalid

-- what a return gives: of poison it is undefined where the function promises a result that is not
abbrev pub returned : Bool → Val → End
returned promised v = if promised && is_poison v then Ub else Returned v

abbrev pub Leaves : Bool → Exit → (ℕ → Ends) → Ends
Leaves promised Invalid enter env answers o = o ≡ only Ub
Leaves promised (Return v) enter env answers o = o ≡ only (returned promised v)
Leaves promised (Edge k target) enter env answers o = enter target env answers o

-- ---- blocks, and the function

-- the outcomes of a block that is entered from a predecessor; a block that is not there is undefined
abbrev pub InBlock : Function → Option Block → Option ℕ → (ℕ → Ends) → Ends
InBlock f None p enter env answers o = o ≡ only Ub
InBlock f (Some block) p enter env answers o =
    Lines f.calls block.insts (λ env'. Leaves (has_noundef f.lead) (exit_of block.term env') enter env')
    (after_phis p block.phis env env) answers o

-- the outcomes of entering block b from block p, or from none, over at most n blocks
abbrev pub Enter : Function → ℕ → Option ℕ → ℕ → Ends
Enter f zero p b env answers o = o ≡ only Going
Enter f (suc n) p b env answers o = InBlock f (slice_get f.blocks b) p (Enter f n (Some b)) env answers o

-- the type of a name; one that the function does not have counts as i1
abbrev pub type_of : Function → ValueId → Ty
type_of f name = option_map_or (λ (value : Value). value.ty) (slice_get f.values name.0) (Ty.Int 1)

-- the types of the parameters
abbrev pub parameter_types : Function → List Ty
parameter_types f = map (λ (p : Param). type_of f p.value) f.params

-- one argument for each of the types
abbrev pub AreArguments : List Ty → List Val → Type 0
AreArguments [] [] = Unit {0}
AreArguments [] (v ∷ args) = ⊥
AreArguments (ty ∷ types) [] = ⊥
AreArguments (ty ∷ types) (v ∷ args) = IsValueOf ty v × AreArguments types args

-- an answer to a call of any width: poison, or a number below 2 ^ 128
abbrev pub IsAnswer : Val → Type 0
IsAnswer v = IsValueOf (Ty.Int 128) v

-- the environment in which the parameters have these arguments
abbrev pub start_of : List Param → List Val → Env
start_of [] args name = Val.Poison
start_of (p ∷ params) [] name = Val.Poison
start_of (p ∷ params) (v ∷ args) name = with_value (start_of params args) p.value.0 v name

-- whether an argument is poison though its parameter promises that it is not
abbrev pub breaks_promise : List Param → List Val → Bool
breaks_promise [] args = false
breaks_promise (p ∷ params) [] = false
breaks_promise (p ∷ params) (v ∷ args) = has_noundef p.words && is_poison v || breaks_promise params args

-- the block that a function begins with
abbrev pub first_block : ℕ
first_block = 0

-- the outcomes of a function for arguments and answers, over at most n entered blocks
abbrev pub Out : Function → List Val → List Val → ℕ → Outcome → Type 0
Out f args answers n o = MatchBool (breaks_promise f.params args)
    (o ≡ only Ub)
    (Enter f n None first_block (start_of f.params args) answers o)
