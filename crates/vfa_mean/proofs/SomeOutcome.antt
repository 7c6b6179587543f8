-- Each function has an outcome.
use Rattle.std.proofs.Common.{◌≡◌, ℕ, zero, suc, Bool, true, false, Option, Some, None, List, [], ◌∷◌, MatchBool, slice_get, refl}
use Rattle.vfa_ir.specs.declared.operations.Op.{Op}
use Rattle.vfa_ir.specs.declared.operations.ValueId.{ValueId}
use Rattle.vfa_ir.specs.declared.functions.Block.{Block}
use Rattle.vfa_ir.specs.declared.functions.CallOp.{CallOp}
use Rattle.vfa_ir.specs.declared.functions.Function.{Function}
use Rattle.vfa_ir.specs.declared.functions.Inst.{Inst}
use Rattle.vfa_mean.specs.declared.value.Val.{Val}
use Rattle.vfa_mean.specs.Values.{Env}
use Rattle.vfa_mean.specs.Meaning.{Result, Undefined, Gave, Gives, done_in}
use Rattle.vfa_mean.specs.Outcomes.{Going, Stopped, Ub, Outcome, only, after_event, Ends, with_result, After, has_noundef, breaks_call, event_of, answered, TakesAnswer, Calls, Does, Lines, after_phis, Exit, Invalid, Return, Edge, exit_of, returned, Leaves, InBlock, Enter, first_block, start_of, breaks_promise}
use Rattle.vfa_mean.specs.Laws.{HasOutcome}
use Rattle.vfa_mean.proofs.Results.{some_result}

-- something comes from here on in every environment
abbrev Has : Ends → Type 0
Has next = (env : Env) (answers : List Val) → (o : Outcome) × next env answers o

either : (t : Bool) (P Q : Outcome → Type 0) → (o : Outcome) × P o → (o : Outcome) × Q o → (o : Outcome) × MatchBool t (P o) (Q o)
either true P Q p q = p
either false P Q p q = q

after_has : (name : Option ValueId) (next : Ends) → Has next → (env : Env) (answers : List Val) (r : Result)
    → (o : Outcome) × After name next env answers r o
after_has name next h env answers Undefined = (only Ub, refl)
after_has name next h env answers (Gave v) = h (with_result env name v) answers

gives_has : (op : Op) (name : Option ValueId) (next : Ends) → Has next → (env : Env) (answers : List Val)
    → (o : Outcome) × ((r : Result) × Gives op env r × After name next env answers r o)
gives_has op name next h env answers =
    let some = some_result (done_in op env) in
    let end = after_has name next h env answers some.0 in
    (end.0, (some.0, some.1, end.1))

answer_has : (width : Option ℕ) (call : CallOp) (name : Option ValueId) (next : Ends) → Has next → Has (TakesAnswer width call name next)
answer_has width call name next h env [] = (only Stopped, refl)
answer_has width call name next h env (v ∷ answers) =
    after_has name next h env answers (answered width (has_noundef call.words) v)

calls_has : (width : Option ℕ) (call : Option CallOp) (name : Option ValueId) (next : Ends) → Has next → Has (Calls width call name next)
calls_has width None name next h env answers = (only Ub, refl)
calls_has width (Some call) name next h env answers =
    let rest = answer_has width call name next h env answers in
    either (breaks_call env call.args) (λ o. o ≡ only Ub)
    (λ o. (rest : Outcome) × TakesAnswer width call name next env answers rest × (o ≡ after_event (event_of env call) rest))
    (only Ub, refl) (after_event (event_of env call) rest.0, (rest.0, rest.1, refl))

does_has : (calls : List CallOp) (op : Op) (name : Option ValueId) (next : Ends) → Has next → Has (Does calls op name next)
does_has calls (Op.Call width call) name next h env answers = calls_has width (slice_get calls call) name next h env answers
does_has calls (Op.Bin bin flags w a b) name next h env answers = gives_has (Op.Bin bin flags w a b) name next h env answers
does_has calls (Op.Icmp pred samesign w a b) name next h env answers = gives_has (Op.Icmp pred samesign w a b) name next h env answers
does_has calls (Op.Select w c a b) name next h env answers = gives_has (Op.Select w c a b) name next h env answers
does_has calls (Op.Cast cast flags v w a) name next h env answers = gives_has (Op.Cast cast flags v w a) name next h env answers
does_has calls (Op.Freeze w a) name next h env answers = gives_has (Op.Freeze w a) name next h env answers
does_has calls (Op.Two fun w a b) name next h env answers = gives_has (Op.Two fun w a b) name next h env answers
does_has calls (Op.One fun w a strict) name next h env answers = gives_has (Op.One fun w a strict) name next h env answers
does_has calls (Op.Over over w a b) name next h env answers = gives_has (Op.Over over w a b) name next h env answers
does_has calls (Op.Part w pair index) name next h env answers = gives_has (Op.Part w pair index) name next h env answers
does_has calls (Op.Assume c) name next h env answers = gives_has (Op.Assume c) name next h env answers

lines_has : (calls : List CallOp) (insts : List Inst) (next : Ends) → Has next → Has (Lines calls insts next)
lines_has calls [] next h env answers = h env answers
lines_has calls (i ∷ rest) next h env answers =
    does_has calls i.op i.result (Lines calls rest next) (lines_has calls rest next h) env answers

leaves_has : (promised : Bool) (exit : Exit) (enter : ℕ → Ends) → ((b : ℕ) → Has (enter b)) → Has (Leaves promised exit enter)
leaves_has promised Invalid enter h env answers = (only Ub, refl)
leaves_has promised (Return v) enter h env answers = (only (returned promised v), refl)
leaves_has promised (Edge k target) enter h env answers = h target env answers

in_block_has : (f : Function) (block : Option Block) (p : Option ℕ) (enter : ℕ → Ends) → ((b : ℕ) → Has (enter b)) → Has (InBlock f block p enter)
in_block_has f None p enter h env answers = (only Ub, refl)
in_block_has f (Some block) p enter h env answers =
    lines_has f.calls block.insts (λ env'. Leaves (has_noundef f.lead) (exit_of block.term env') enter env')
    (λ env'. leaves_has (has_noundef f.lead) (exit_of block.term env') enter h env') (after_phis p block.phis env env) answers

enter_has : (f : Function) (n : ℕ) (p : Option ℕ) (b : ℕ) → Has (Enter f n p b)
enter_has f zero p b env answers = (only Going, refl)
enter_has f (suc n) p b env answers =
    in_block_has f (slice_get f.blocks b) p (Enter f n (Some b)) (λ target. enter_has f n (Some b) target) env answers

pub has_outcome : (f : Function) → HasOutcome f
has_outcome f args answers n =
    either (breaks_promise f.params args) (λ o. o ≡ only Ub) (Enter f n None first_block (start_of f.params args) answers)
    (only Ub, refl) (enter_has f n None first_block (start_of f.params args) answers)
