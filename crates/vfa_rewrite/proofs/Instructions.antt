-- The instructions of a block, one after another: what is left of them meets what was read.
use Rattle.std.proofs.Common.{◌≡◌, ℕ, suc, ◌^◌, ◌&&◌, Bool, true, false, if◌then◌else◌, Option, Some, None, List, [], ◌∷◌, ◌++◌, All, MatchBool, map, slice_get, refl, sym, subst, ap, ◌∙◌}
use Rattle.std.proofs.lemmas.Bool.{or_parts, or_from, MatchBool-at_false}
use Rattle.std.proofs.lemmas.Nat.{pow_pos, mod_below}
use Rattle.std.proofs.lemmas.List.Elements.{All-head, All-tail}
use Rattle.std.specs.List.{AllByRecursion}
use Rattle.vfa_ir.specs.declared.operations.Op.{Op}
use Rattle.vfa_ir.specs.declared.operations.Operand.{Operand}
use Rattle.vfa_ir.specs.declared.operations.Ty.{Ty}
use Rattle.vfa_ir.specs.declared.operations.ValueId.{ValueId}
use Rattle.vfa_ir.specs.declared.functions.Block.{Block}
use Rattle.vfa_ir.specs.declared.functions.CallArg.{CallArg}
use Rattle.vfa_ir.specs.declared.functions.CallOp.{CallOp}
use Rattle.vfa_ir.specs.declared.functions.Function.{Function}
use Rattle.vfa_ir.specs.declared.functions.Inst.{Inst}
use Rattle.vfa_ir.specs.Printable.{op_type}
use Rattle.vfa_mean.specs.declared.value.Val.{Val}
use Rattle.vfa_mean.specs.Values.{Env, IsValueOf, AllowsValue, operand_value}
use Rattle.vfa_mean.specs.Meaning.{Result, Undefined, Gave, Gives}
use Rattle.vfa_mean.specs.Moments.{Place, At, Moment, calls, IsLine, is_call}
use Rattle.vfa_mean.specs.Outcomes.{Passed, Stopped, Ub, Outcome, only, after_event, Ends, with_result, After, has_noundef, is_poison, breaks_call, event_of, at_width, answered, TakesAnswer, Calls, Does, Lines, IsAnswer}
use Rattle.vfa_mean.specs.Refines.{AllowsArguments, AllowsEvent, Allows}
use Rattle.vfa_mean.proofs.Refining.{AllowsValue-refl}
use Rattle.vfa_rewrite.specs.Rewritten.{Marks, argument_left, call_left, rewritten}
use Rattle.vfa_cond.specs.Conditions.{name_type}
use Rattle.vfa_rewrite.specs.Sound.{Agrees, StandsFor, Comes, CallStands}
use Rattle.vfa_rewrite.proofs.Agreement.{operand_agrees, both_results}

-- some outcome allows this one
abbrev pub Meets : Ends → Env → List Val → Outcome → Type 0
Meets next env answers o' = (o : Outcome) × next env answers o × Allows o o'

-- what comes of undefined behaviour meets everything
pub undefined_meets : (next : Ends) (env : Env) (answers : List Val) (o' : Outcome) → next env answers (only Ub) → Meets next env answers o'
undefined_meets next env answers o' h = (only Ub, h, tt)

-- ---- operations

-- an operation has an outcome for each of its results, and no other
pub operation_does : (list : List CallOp) (op : Op) (name : Option ValueId) (next : Ends) (env : Env) (answers : List Val) (o : Outcome) → is_call op ≡ false →
    (r : Result) → Gives op env r → After name next env answers r o → Does list op name next env answers o
operation_does list (Op.Bin bin flags w a b) name next env answers o plain r gives after = (r, gives, after)
operation_does list (Op.Icmp pred samesign w a b) name next env answers o plain r gives after = (r, gives, after)
operation_does list (Op.Select w c a b) name next env answers o plain r gives after = (r, gives, after)
operation_does list (Op.Cast cast flags v w a) name next env answers o plain r gives after = (r, gives, after)
operation_does list (Op.Freeze w a) name next env answers o plain r gives after = (r, gives, after)
operation_does list (Op.Two fun w a b) name next env answers o plain r gives after = (r, gives, after)
operation_does list (Op.One fun w a strict) name next env answers o plain r gives after = (r, gives, after)
operation_does list (Op.Over over w a b) name next env answers o plain r gives after = (r, gives, after)
operation_does list (Op.Part w pair index) name next env answers o plain r gives after = (r, gives, after)
operation_does list (Op.Assume c) name next env answers o plain r gives after = (r, gives, after)
operation_does list (Op.Call w call) name next env answers o plain r gives after = absurd (cc)

record Did (op : Op) (name : Option ValueId) (next : Ends) (env : Env) (answers : List Val) (o : Outcome) : Type 0 where
  result : Result
  gives : Gives op env result
  after : After name next env answers result o

abbrev did : (op : Op) (name : Option ValueId) (next : Ends) (env : Env) (answers : List Val) (o : Outcome) →
    ((r : Result) × Gives op env r × After name next env answers r o) → Did op name next env answers o
did op name next env answers o h = record { result = h.0; gives = h.1; after = h.2 }

operation_did : (list : List CallOp) (op : Op) (name : Option ValueId) (next : Ends) (env : Env) (answers : List Val) (o : Outcome) → is_call op ≡ false →
    Does list op name next env answers o → Did op name next env answers o
operation_did list (Op.Bin bin flags w a b) name next env answers o plain h = did (Op.Bin bin flags w a b) name next env answers o h
operation_did list (Op.Icmp pred samesign w a b) name next env answers o plain h = did (Op.Icmp pred samesign w a b) name next env answers o h
operation_did list (Op.Select w c a b) name next env answers o plain h = did (Op.Select w c a b) name next env answers o h
operation_did list (Op.Cast cast flags v w a) name next env answers o plain h = did (Op.Cast cast flags v w a) name next env answers o h
operation_did list (Op.Freeze w a) name next env answers o plain h = did (Op.Freeze w a) name next env answers o h
operation_did list (Op.Two fun w a b) name next env answers o plain h = did (Op.Two fun w a b) name next env answers o h
operation_did list (Op.One fun w a strict) name next env answers o plain h = did (Op.One fun w a strict) name next env answers o h
operation_did list (Op.Over over w a b) name next env answers o plain h = did (Op.Over over w a b) name next env answers o h
operation_did list (Op.Part w pair index) name next env answers o plain h = did (Op.Part w pair index) name next env answers o h
operation_did list (Op.Assume c) name next env answers o plain h = did (Op.Assume c) name next env answers o h
operation_did list (Op.Call w call) name next env answers o plain h = absurd (cc)

-- lines that stand in place of one come to an end, and the rest goes on from there
abbrev pub OnEnd : Option Env → Ends → List Val → Outcome → Type 0
OnEnd None next answers o = o ≡ only Ub
OnEnd (Some env) next answers o = next env answers o

pub record ComesTo (lines : List Inst) (next : Ends) (env : Env) (answers : List Val) (o : Outcome) : Type 0 where
  pub end : Option Env
  pub comes : Comes lines env end
  pub rest : OnEnd end next answers o

module _ (list : List CallOp) (rest : List Inst) (next : Ends) (answers : List Val) (o : Outcome) where
  first_comes : (line : Inst) (lines : List Inst) (env : Env) →
      ((env : Env) → Lines list (lines ++ rest) next env answers o → ComesTo lines (Lines list rest next) env answers o) →
      (r : Result) → Gives line.op env r → After line.result (Lines list (lines ++ rest) next) env answers r o →
      ComesTo (line ∷ lines) (Lines list rest next) env answers o
  first_comes line lines env again Undefined gives after = record { end = None; comes = (Undefined, gives, refl); rest = after }
  first_comes line lines env again (Gave v) gives after =
      let later = again (with_result env line.result v) after in
      record { end = later.end; comes = (Gave v, gives, later.comes); rest = later.rest }

  pub lines_come : (lines : List Inst) (env : Env) → AllByRecursion (λ (line : Inst). is_call line.op ≡ false) lines →
      Lines list (lines ++ rest) next env answers o → ComesTo lines (Lines list rest next) env answers o
  lines_come [] env plain h = record { end = Some env; comes = refl; rest = h }
  lines_come (line ∷ lines) env plain h =
      let d = operation_did list line.op line.result (Lines list (lines ++ rest) next) env answers o plain.0 h in
      first_comes line lines env (λ e k. lines_come lines e plain.1 k) d.result d.gives d.after

-- ---- calls

poison_kept : (v v' : Val) → AllowsValue v v' → is_poison v ≡ false → is_poison v' ≡ false
poison_kept Val.Poison v' h e = absurd (cc)
poison_kept (Val.Number x) v' h e = ap is_poison (sym h)
poison_kept (Val.Pair x o) v' h e = ap is_poison (sym h)

promise_kept : (promised : Bool) (v v' : Val) → AllowsValue v v' → (promised && is_poison v) ≡ false → (promised && is_poison v') ≡ false
promise_kept true v v' h e = poison_kept v v' h e
promise_kept false v v' h e = refl

-- what a result gave; poison where it is undefined
abbrev given : Result → Val
given Undefined = Val.Poison
given (Gave v) = v

cut_typed : (w : ℕ) (v : Val) → IsValueOf (Ty.Int w) (at_width w v)
cut_typed w (Val.Number x) = mod_below x (2 ^ w) (pow_pos w)
cut_typed w Val.Poison = tt
cut_typed w (Val.Pair x o) = tt

promised_typed : (t : Bool) (w : ℕ) (answer v : Val) → (if t then Undefined else Gave (at_width w answer)) ≡ Gave v → IsValueOf (Ty.Int w) v
promised_typed true w answer v e = absurd (cc)
promised_typed false w answer v e = subst (λ u. IsValueOf (Ty.Int w) u) (ap given e) (cut_typed w answer)

-- a call gives a value of its width
answer_typed : (width : Option ℕ) (k : ℕ) (promised : Bool) (answer v : Val) → answered width promised answer ≡ Gave v → IsValueOf (op_type (Op.Call width k)) v
answer_typed None k promised answer v e = subst (λ u. IsValueOf (Ty.Int 1) u) (ap given e) tt
answer_typed (Some w) k promised answer v e = promised_typed (promised && is_poison answer) w answer v e

abbrev passed : Env → CallArg → Passed
passed env a = record { width = a.width; value = operand_value env a.value }

module _ (f : Function) (m : Marks) (place : Place) (put : Operand → Operand) (env env' : Env) (moment : Moment f place env) (agrees : Agrees f m env env') where
  argument_allowed : (a : CallArg) → StandsFor f m place a.value (put a.value) → AllowsValue (operand_value env a.value) (operand_value env' (put a.value))
  argument_allowed a stands = operand_agrees f m place env env' a.value (put a.value) moment agrees stands.allows stands.kept

  arguments_allowed : (args : List CallArg) → AllByRecursion (λ (a : CallArg). StandsFor f m place a.value (put a.value)) args →
      AllowsArguments (map (passed env) args) (map (passed env') (map (argument_left put) args))
  arguments_allowed [] stand = tt
  arguments_allowed (a ∷ args) stand = (record { width = refl; value = argument_allowed a stand.0 }, arguments_allowed args stand.1)

  promises_kept : (args : List CallArg) → AllByRecursion (λ (a : CallArg). StandsFor f m place a.value (put a.value)) args →
      breaks_call env args ≡ false → breaks_call env' (map (argument_left put) args) ≡ false
  promises_kept [] stand e = refl
  promises_kept (a ∷ args) stand e =
      let parts = or_parts (has_noundef a.words && is_poison (operand_value env a.value)) (breaks_call env args) e in
      or_from (has_noundef a.words && is_poison (operand_value env' (put a.value))) (breaks_call env' (map (argument_left put) args))
      (promise_kept (has_noundef a.words) (operand_value env a.value) (operand_value env' (put a.value)) (argument_allowed a stand.0) parts.0)
      (promises_kept args stand.1 parts.1)

-- from related environments at the place, what is left meets what was read
abbrev pub GoesOn : Function → Marks → ℕ → ℕ → Ends → Ends → Type 0
GoesOn f m b i next next' = (env env' : Env) (answers : List Val) (o' : Outcome) → Moment f (At b i) env → Agrees f m env env' →
    All IsAnswer answers → next' env' answers o' → Meets next env answers o'

module _ (f : Function) (m : Marks) (b i : ℕ) (block : Block) (inst : Inst) (line : IsLine f b block i inst) (next next' : Ends) (again : GoesOn f m b (suc i) next next') where
  module _ (width : Option ℕ) (k : ℕ) (is : inst.op ≡ Op.Call width k)
      (typed : (name : ValueId) → inst.result ≡ Some name → name_type (rewritten f m) name.0 ≡ op_type inst.op)
      (call : CallOp) (there : slice_get f.calls k ≡ Some call) (env env' : Env) (moment : Moment f (At b i) env) (agrees : Agrees f m env env')
      (promise : breaks_call env call.args ≡ false) where
    result_taken : (answer : Val) (answers : List Val) (o' : Outcome) → IsAnswer answer → All IsAnswer answers → (r : Result) →
        answered width (has_noundef call.words) answer ≡ r → After inst.result next' env' answers r o' →
        (o : Outcome) × After inst.result next env answers r o × Allows o o'
    result_taken answer answers o' possible all Undefined e after = (only Ub, refl, tt)
    result_taken answer answers o' possible all (Gave v) e after =
        again (with_result env inst.result v) (with_result env' inst.result v) answers o'
        (calls b block i inst env v width k call answer moment line is (record { there = there; promise = promise; possible = possible; gives = e }))
        (both_results f m env env' inst.result v v agrees (AllowsValue-refl v)
        (λ name r. subst (λ t. IsValueOf t v) (sym (typed name r ∙ ap op_type is)) (answer_typed width k (has_noundef call.words) answer v e)))
        all after

    answer_taken : (answers : List Val) (o' : Outcome) → All IsAnswer answers → TakesAnswer width call inst.result next' env' answers o' →
        (o : Outcome) × TakesAnswer width call inst.result next env answers o × Allows o o'
    answer_taken [] o' all h = (only Stopped, refl, subst (λ o. Allows (only Stopped) o) (sym h) refl)
    answer_taken (answer ∷ answers) o' all h =
        result_taken answer answers o' (All-head IsAnswer answer answers all) (All-tail IsAnswer answer answers all)
        (answered width (has_noundef call.words) answer) refl h

    pub call_goes : CallStands f m b i inst k call → (answers : List Val) (o' : Outcome) → All IsAnswer answers →
        Calls width (Some (call_left m k call)) inst.result next' env' answers o' → Meets (Calls width (Some call) inst.result next) env answers o'
    call_goes stands answers o' all h =
        let kept = promises_kept f m (At b i) (m.put_call k) env env' moment agrees call.args stands.args promise in
        let did' = MatchBool-at_false (o' ≡ only Ub)
        ((rest : Outcome) × TakesAnswer width (call_left m k call) inst.result next' env' answers rest × (o' ≡ after_event (event_of env' (call_left m k call)) rest)) kept h in
        let taken = answer_taken answers did'.0 all did'.1 in
        let o = after_event (event_of env call) taken.0 in
        let does : (rest : Outcome) × TakesAnswer width call inst.result next env answers rest × (o ≡ after_event (event_of env call) rest) = (taken.0, taken.1, refl) in
        let allowed : AllowsEvent (event_of env call) (event_of env' (call_left m k call)) =
        record { callee = refl; args = arguments_allowed f m (At b i) (m.put_call k) env env' moment agrees call.args stands.args } in (
          o,
          subst (λ t. MatchBool t (o ≡ only Ub) ((rest : Outcome) × TakesAnswer width call inst.result next env answers rest × (o ≡ after_event (event_of env call) rest))) (sym promise) does,
          subst (λ p. Allows o p) (sym did'.2) (allowed, taken.2),
        )
