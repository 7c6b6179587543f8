-- A function and the renamed one have the same outcomes: in step, the values of the names are the same.
use Rattle.std.proofs.Common.{◌≡◌, ℕ, zero, suc, Bool, true, false, ◌&&◌, ◌||◌, nat_eq, if◌then◌else◌, List, [], ◌∷◌, map, Option, Some, None, MatchBool, refl, sym, ap, ◌∙◌, subst, inl, inr}
use Rattle.std.specs.Prelude.{◌↔◌, option_and_then}
use Rattle.std.specs.Option.{option_map, option_map_or}
use Rattle.std.specs.List.{cons_option, filter_map, slice_get}
use Rattle.std.proofs.lemmas.Option.{same_Some, slice_get-map}
use Rattle.vfa_ir.specs.declared.operations.BlockId.{BlockId}
use Rattle.vfa_ir.specs.declared.operations.Op.{Op}
use Rattle.vfa_ir.specs.declared.operations.Operand.{Operand}
use Rattle.vfa_ir.specs.declared.operations.Ty.{Ty}
use Rattle.vfa_ir.specs.declared.operations.ValueId.{ValueId}
use Rattle.vfa_ir.specs.declared.functions.Block.{Block}
use Rattle.vfa_ir.specs.declared.functions.CallArg.{CallArg}
use Rattle.vfa_ir.specs.declared.functions.CallOp.{CallOp}
use Rattle.vfa_ir.specs.declared.functions.Function.{Function}
use Rattle.vfa_ir.specs.declared.functions.Inst.{Inst}
use Rattle.vfa_ir.specs.declared.functions.Param.{Param}
use Rattle.vfa_ir.specs.declared.functions.Phi.{Phi}
use Rattle.vfa_ir.specs.declared.functions.Term.{Term}
use Rattle.vfa_ir.specs.declared.functions.Value.{Value}
use Rattle.vfa_ir.specs.PhisFit.{targets}
use Rattle.vfa_ir.specs.Printable.{call_place, inst_ids}
use Rattle.vfa_ir.specs.Walks.{is_in}
use Rattle.vfa_mean.specs.declared.value.Val.{Val}
use Rattle.vfa_mean.specs.Values.{Env, operand_value}
use Rattle.vfa_mean.specs.Meaning.{Allowed, Result, Undefined, Gave, Gives, done, done_in, operand_a, operand_b, operand_c}
use Rattle.vfa_mean.specs.Outcomes.{Passed, Going, Stopped, Ub, Outcome, only, after_event, Ends, with_value, with_result, After, has_noundef, is_poison, breaks_call, event_of, answered, TakesAnswer, Calls, Does, Lines, entry_from, entry_for, after_phis, Exit, Invalid, Return, Edge, branch_exit, case_exit, switch_exit, exit_of, returned, Leaves, InBlock, Enter, start_of, breaks_promise, first_block, Out}
use Rattle.vfa_mean.specs.Refines.{ParameterHead, parameter_head, SameHeader, Refines}
use Rattle.vfa_mean.specs.Renaming.{Order, place_among, at_places, renamed, renamed_argument, renamed_block, renamed_call, renamed_case, renamed_entry, renamed_inst, renamed_op, renamed_operand, renamed_param, renamed_phi, renamed_term, renamed_value}
use Rattle.vfa_mean.specs.Numbering.{AreAmong, Covers, CoversBlock}
use Rattle.vfa_mean.proofs.FreshOperands.Definitions.{first_or_rest, in_first, in_left, in_rest, in_right}
use Rattle.vfa_mean.proofs.PlacesAmong.{at_its_place, place_test, stands_within}
use Rattle.vfa_mean.proofs.Refining.{Allows-refl}

same : (P : Type 0) → P ↔ P
same P = (λ p. p, λ p. p)

-- each name has under its new number the value that it has
abbrev pub SameValues : Order → Env → Env → Type 0
SameValues o env env' = (n : ℕ) → env' (place_among o.values n) ≡ env n

-- the same may come of it in such environments
abbrev SameEnds : Order → Ends → Ends → Type 0
SameEnds o next next' = (env env' : Env) → SameValues o env env' → (answers : List Val) (out : Outcome) →
    next env answers out ↔ next' env' answers out

-- ---- values

value_renamed : (o : Order) (env env' : Env) → SameValues o env env' → (a : Operand) → operand_value env' (renamed_operand o a) ≡ operand_value env a
value_renamed o env env' h (Operand.Value v) = h v.0
value_renamed o env env' h (Operand.Literal bits) = refl
value_renamed o env env' h Operand.Poison = refl

write_renamed : (o : Order) (env env' : Env) (v : ℕ) (x x' : Val) → is_in v o.values ≡ true → x' ≡ x → SameValues o env env' →
    SameValues o (with_value env v x) (with_value env' (place_among o.values v) x')
write_renamed o env env' v x x' there e h n =
    ap (λ t. if t then x' else env' (place_among o.values n)) (place_test o.values v n there)
    ∙ ap (λ y. if nat_eq n v then y else env' (place_among o.values n)) e
    ∙ ap (λ y. if nat_eq n v then x else y) (h n)

-- the name that a line defines is in the order
abbrev HasResult : Order → Option ValueId → Type 0
HasResult o None = Unit {0}
HasResult o (Some v) = is_in v.0 o.values ≡ true

result_renamed : (o : Order) (env env' : Env) (name : Option ValueId) (x : Val) → HasResult o name → SameValues o env env' →
    SameValues o (with_result env name x) (with_result env' (option_map (renamed_value o) name) x)
result_renamed o env env' None x there h = h
result_renamed o env env' (Some v) x there h = write_renamed o env env' v.0 x x there refl h

-- ---- operations

done_renamed : (o : Order) (op : Op) (a b c : Val) → done (renamed_op o op) a b c ≡ done op a b c
unfolding done
done_renamed o (Op.Bin bin flags w x y) a b c = refl
done_renamed o (Op.Icmp pred samesign w x y) a b c = refl
done_renamed o (Op.Select w z x y) a b c = refl
done_renamed o (Op.Cast cast flags v w x) a b c = refl
done_renamed o (Op.Freeze w x) a b c = refl
done_renamed o (Op.Two fun w x y) a b c = refl
done_renamed o (Op.One fun w x strict) a b c = refl
done_renamed o (Op.Over over w x y) a b c = refl
done_renamed o (Op.Part w pair index) a b c = refl
done_renamed o (Op.Assume x) a b c = refl
done_renamed o (Op.Call width call) a b c = refl

pub record KeepsOperands (o : Order) (op : Op) : Type 0 where
  pub a : operand_a (renamed_op o op) ≡ renamed_operand o (operand_a op)
  pub b : operand_b (renamed_op o op) ≡ renamed_operand o (operand_b op)
  pub c : operand_c (renamed_op o op) ≡ renamed_operand o (operand_c op)

keeps_operands : (o : Order) (op : Op) → KeepsOperands o op
keeps_operands o (Op.Bin bin flags w x y) = record { a = refl; b = refl; c = refl }
keeps_operands o (Op.Icmp pred samesign w x y) = record { a = refl; b = refl; c = refl }
keeps_operands o (Op.Select w z x y) = record { a = refl; b = refl; c = refl }
keeps_operands o (Op.Cast cast flags v w x) = record { a = refl; b = refl; c = refl }
keeps_operands o (Op.Freeze w x) = record { a = refl; b = refl; c = refl }
keeps_operands o (Op.Two fun w x y) = record { a = refl; b = refl; c = refl }
keeps_operands o (Op.One fun w x strict) = record { a = refl; b = refl; c = refl }
keeps_operands o (Op.Over over w x y) = record { a = refl; b = refl; c = refl }
keeps_operands o (Op.Part w pair index) = record { a = refl; b = refl; c = refl }
keeps_operands o (Op.Assume x) = record { a = refl; b = refl; c = refl }
keeps_operands o (Op.Call width call) = record { a = refl; b = refl; c = refl }

operand_same : (o : Order) (env env' : Env) → SameValues o env env' → (a a' : Operand) → a' ≡ renamed_operand o a →
    operand_value env' a' ≡ operand_value env a
operand_same o env env' h a a' e = ap (operand_value env') e ∙ value_renamed o env env' h a

done_in_renamed : (o : Order) (env env' : Env) → SameValues o env env' → (op : Op) → done_in (renamed_op o op) env' ≡ done_in op env
done_in_renamed o env env' h op =
    let k = keeps_operands o op in
    let a = operand_same o env env' h (operand_a op) (operand_a (renamed_op o op)) k.a in
    let b = operand_same o env env' h (operand_b op) (operand_b (renamed_op o op)) k.b in
    let c = operand_same o env env' h (operand_c op) (operand_c (renamed_op o op)) k.c in
    ap (λ x. done (renamed_op o op) x (operand_value env' (operand_b (renamed_op o op))) (operand_value env' (operand_c (renamed_op o op)))) a
    ∙ ap (λ y. done (renamed_op o op) (operand_value env (operand_a op)) y (operand_value env' (operand_c (renamed_op o op)))) b
    ∙ ap (λ z. done (renamed_op o op) (operand_value env (operand_a op)) (operand_value env (operand_b op)) z) c
    ∙ done_renamed o op (operand_value env (operand_a op)) (operand_value env (operand_b op)) (operand_value env (operand_c op))

-- ---- lines

after_same : (o : Order) (name : Option ValueId) (next next' : Ends) → HasResult o name → SameEnds o next next' →
    (env env' : Env) → SameValues o env env' → (answers : List Val) (r : Result) (out : Outcome) →
    After name next env answers r out ↔ After (option_map (renamed_value o) name) next' env' answers r out
after_same o name next next' there h env env' values answers Undefined out = same (out ≡ only Ub)
after_same o name next next' there h env env' values answers (Gave v) out =
    h (with_result env name v) (with_result env' (option_map (renamed_value o) name) v) (result_renamed o env env' name v there values) answers out

gives_same : (o : Order) (op : Op) (name : Option ValueId) (next next' : Ends) → HasResult o name → SameEnds o next next' →
    (env env' : Env) → SameValues o env env' → (answers : List Val) (out : Outcome) →
    ((r : Result) × Gives op env r × After name next env answers r out)
    ↔ ((r : Result) × Gives (renamed_op o op) env' r × After (option_map (renamed_value o) name) next' env' answers r out)
gives_same o op name next next' there h env env' values answers out =
    let e = done_in_renamed o env env' values op in (
      λ (r, gives, after). (r, subst (λ d. Allowed d r) (sym e) gives, (after_same o name next next' there h env env' values answers r out).0 after),
      λ (r, gives, after). (r, subst (λ d. Allowed d r) e gives, (after_same o name next next' there h env env' values answers r out).1 after),
    )

answer_same : (o : Order) (width : Option ℕ) (call : CallOp) (name : Option ValueId) (next next' : Ends) → HasResult o name → SameEnds o next next' →
    SameEnds o (TakesAnswer width call name next) (TakesAnswer width (renamed_call o call) (option_map (renamed_value o) name) next')
answer_same o width call name next next' there h env env' values [] out = same (out ≡ only Stopped)
answer_same o width call name next next' there h env env' values (v ∷ answers) out =
    after_same o name next next' there h env env' values answers (answered width (has_noundef call.words) v) out

breaks_renamed : (o : Order) (env env' : Env) → SameValues o env env' → (args : List CallArg) →
    breaks_call env' (map (renamed_argument o) args) ≡ breaks_call env args
breaks_renamed o env env' h [] = refl
breaks_renamed o env env' h (a ∷ args) =
    ap (λ x. has_noundef a.words && is_poison x || breaks_call env' (map (renamed_argument o) args)) (value_renamed o env env' h a.value)
    ∙ ap (λ t. has_noundef a.words && is_poison (operand_value env a.value) || t) (breaks_renamed o env env' h args)

abbrev passed_in : Env → CallArg → Passed
passed_in env a = record { width = a.width; value = operand_value env a.value }

passed_renamed : (o : Order) (env env' : Env) → SameValues o env env' → (args : List CallArg) →
    map (passed_in env') (map (renamed_argument o) args) ≡ map (passed_in env) args
passed_renamed o env env' h [] = refl
passed_renamed o env env' h (a ∷ args) =
    let rest : List Passed = map (passed_in env') (map (renamed_argument o) args) in
    ap (λ x. record { width = a.width; value = x } ∷ rest) (value_renamed o env env' h a.value)
    ∙ ap (λ ps. passed_in env a ∷ ps) (passed_renamed o env env' h args)

event_renamed : (o : Order) (env env' : Env) → SameValues o env env' → (call : CallOp) → event_of env' (renamed_call o call) ≡ event_of env call
event_renamed o env env' h call = ap (λ ps. record { callee = call.callee; args = ps }) (passed_renamed o env env' h call.args)

-- a test that is the same chooses the same
either_same : (t t' : Bool) (P P' Q Q' : Type 0) → t' ≡ t → P ↔ P' → Q ↔ Q' → MatchBool t P Q ↔ MatchBool t' P' Q'
either_same true true P P' Q Q' e p q = p
either_same false false P P' Q Q' e p q = q
either_same true false P P' Q Q' e p q = absurd (cc)
either_same false true P P' Q Q' e p q = absurd (cc)

calls_same : (o : Order) (width : Option ℕ) (call : CallOp) (name : Option ValueId) (next next' : Ends) → HasResult o name → SameEnds o next next' →
    SameEnds o (Calls width (Some call) name next) (Calls width (Some (renamed_call o call)) (option_map (renamed_value o) name) next')
calls_same o width call name next next' there h env env' values answers out =
    let e = event_renamed o env env' values call in
    either_same (breaks_call env call.args) (breaks_call env' (map (renamed_argument o) call.args))
    (out ≡ only Ub) (out ≡ only Ub)
    ((rest : Outcome) × TakesAnswer width call name next env answers rest × (out ≡ after_event (event_of env call) rest))
    ((rest : Outcome) × TakesAnswer width (renamed_call o call) (option_map (renamed_value o) name) next' env' answers rest
    × (out ≡ after_event (event_of env' (renamed_call o call)) rest))
    (breaks_renamed o env env' values call.args)
    (same (out ≡ only Ub)) (
      λ (rest, takes, is). (rest, (answer_same o width call name next next' there h env env' values answers rest).0 takes, is ∙ ap (λ v. after_event v rest) (sym e)),
      λ (rest, takes, is). (rest, (answer_same o width call name next next' there h env env' values answers rest).1 takes, is ∙ ap (λ v. after_event v rest) e),
    )

-- the call of a place is the same but for its operands
abbrev HasCall : Order → List CallOp → List CallOp → Op → Type 0
HasCall o calls calls' op = (place : ℕ) → call_place op ≡ Some place →
    (call : CallOp) × (slice_get calls place ≡ Some call) × (slice_get calls' (place_among o.calls place) ≡ Some (renamed_call o call))

called_same : (o : Order) (width : Option ℕ) (name : Option ValueId) (next next' : Ends) → HasResult o name → SameEnds o next next' →
    (found found' : Option CallOp) (call : CallOp) → found ≡ Some call → found' ≡ Some (renamed_call o call) →
    SameEnds o (Calls width found name next) (Calls width found' (option_map (renamed_value o) name) next')
called_same o width name next next' there h (Some c) (Some c') call e e' env env' values answers out =
    let one : c ≡ call = cc in
    let two : c' ≡ renamed_call o call = cc in
    let P : CallOp → CallOp → Type 0 = λ x y. Calls width (Some x) name next env answers out
    ↔ Calls width (Some y) (option_map (renamed_value o) name) next' env' answers out in
    subst (λ x. P x c') (sym one) (subst (λ y. P call y) (sym two) (calls_same o width call name next next' there h env env' values answers out))
called_same o width name next next' there h None found' call e e' env env' values answers out = absurd (cc)
called_same o width name next next' there h (Some c) None call e e' env env' values answers out = absurd (cc)

does_same : (o : Order) (calls calls' : List CallOp) (op : Op) (name : Option ValueId) (next next' : Ends) →
    HasCall o calls calls' op → HasResult o name → SameEnds o next next' →
    SameEnds o (Does calls op name next) (Does calls' (renamed_op o op) (option_map (renamed_value o) name) next')
does_same o calls calls' (Op.Call width place) name next next' made there h env env' values answers out =
    let call = made place refl in
    called_same o width name next next' there h (slice_get calls place) (slice_get calls' (place_among o.calls place)) call.0 call.1 call.2 env env' values answers out
does_same o calls calls' (Op.Bin bin flags w a b) name next next' made there h env env' values answers out =
    gives_same o (Op.Bin bin flags w a b) name next next' there h env env' values answers out
does_same o calls calls' (Op.Icmp pred samesign w a b) name next next' made there h env env' values answers out =
    gives_same o (Op.Icmp pred samesign w a b) name next next' there h env env' values answers out
does_same o calls calls' (Op.Select w c a b) name next next' made there h env env' values answers out =
    gives_same o (Op.Select w c a b) name next next' there h env env' values answers out
does_same o calls calls' (Op.Cast cast flags v w a) name next next' made there h env env' values answers out =
    gives_same o (Op.Cast cast flags v w a) name next next' there h env env' values answers out
does_same o calls calls' (Op.Freeze w a) name next next' made there h env env' values answers out =
    gives_same o (Op.Freeze w a) name next next' there h env env' values answers out
does_same o calls calls' (Op.Two fun w a b) name next next' made there h env env' values answers out =
    gives_same o (Op.Two fun w a b) name next next' there h env env' values answers out
does_same o calls calls' (Op.One fun w a strict) name next next' made there h env env' values answers out =
    gives_same o (Op.One fun w a strict) name next next' there h env env' values answers out
does_same o calls calls' (Op.Over over w a b) name next next' made there h env env' values answers out =
    gives_same o (Op.Over over w a b) name next next' there h env env' values answers out
does_same o calls calls' (Op.Part w pair index) name next next' made there h env env' values answers out =
    gives_same o (Op.Part w pair index) name next next' there h env env' values answers out
does_same o calls calls' (Op.Assume c) name next next' made there h env env' values answers out =
    gives_same o (Op.Assume c) name next next' there h env env' values answers out

-- each of some lines has its result in the order, and its call
abbrev AreCovered : Order → List CallOp → List CallOp → List Inst → Type 0
AreCovered o calls calls' [] = Unit {0}
AreCovered o calls calls' (i ∷ rest) = HasResult o i.result × HasCall o calls calls' i.op × AreCovered o calls calls' rest

pub lines_same : (o : Order) (calls calls' : List CallOp) (insts : List Inst) (next next' : Ends) → AreCovered o calls calls' insts →
    SameEnds o next next' → SameEnds o (Lines calls insts next) (Lines calls' (map (renamed_inst o) insts) next')
lines_same o calls calls' [] next next' covered h = h
lines_same o calls calls' (i ∷ rest) next next' covered h =
    does_same o calls calls' i.op i.result (Lines calls rest next) (Lines calls' (map (renamed_inst o) rest) next') covered.1 covered.0
    (lines_same o calls calls' rest next next' covered.2 h)

-- ---- phis

-- the predecessor is a block of the order
abbrev IsFrom : Order → Option ℕ → Type 0
IsFrom o None = Unit {0}
IsFrom o (Some p) = is_in p o.blocks ≡ true

abbrev renamed_from : Order → Option ℕ → Option ℕ
renamed_from o p = option_map (place_among o.blocks) p

entry_renamed : (o : Order) (p : ℕ) → is_in p o.blocks ≡ true → (entries : List (Operand × BlockId)) →
    entry_from (place_among o.blocks p) (map (renamed_entry o) entries) ≡ renamed_operand o (entry_from p entries)
entry_renamed o p there [] = refl
entry_renamed o p there (e ∷ rest) =
    ap (λ t. if t then renamed_operand o e.0 else entry_from (place_among o.blocks p) (map (renamed_entry o) rest)) (place_test o.blocks p e.1.0 there)
    ∙ ap (λ a. if nat_eq e.1.0 p then renamed_operand o e.0 else a) (entry_renamed o p there rest)
    ∙ by (nat_eq e.1.0 p)
  where
    by : (t : Bool) → (if t then renamed_operand o e.0 else renamed_operand o (entry_from p rest)) ≡ renamed_operand o (if t then e.0 else entry_from p rest)
    by true = refl
    by false = refl

entry_for_renamed : (o : Order) (p : Option ℕ) → IsFrom o p → (entries : List (Operand × BlockId)) →
    entry_for (renamed_from o p) (map (renamed_entry o) entries) ≡ renamed_operand o (entry_for p entries)
entry_for_renamed o None there entries = refl
entry_for_renamed o (Some p) there entries = entry_renamed o p there entries

phis_same : (o : Order) (p : Option ℕ) → IsFrom o p → (phis : List Phi) → AreAmong (map (λ (phi : Phi). phi.result.0) phis) o.values →
    (before before' env env' : Env) → SameValues o before before' → SameValues o env env' →
    SameValues o (after_phis p phis before env) (after_phis (renamed_from o p) (map (renamed_phi o) phis) before' env')
phis_same o p from [] there before before' env env' h k = k
phis_same o p from (phi ∷ rest) there before before' env env' h k =
    let names : List ℕ = map (λ (phi : Phi). phi.result.0) rest in
    let value = ap (operand_value before') (entry_for_renamed o p from phi.entries) ∙ value_renamed o before before' h (entry_for p phi.entries) in
    phis_same o p from rest (λ n t. there n (in_rest n phi.result.0 names t)) before before'
    (with_value env phi.result.0 (operand_value before (entry_for p phi.entries)))
    (with_value env' (place_among o.values phi.result.0) (operand_value before' (entry_for (renamed_from o p) (map (renamed_entry o) phi.entries))))
    h
    (write_renamed o env env' phi.result.0 (operand_value before (entry_for p phi.entries))
    (operand_value before' (entry_for (renamed_from o p) (map (renamed_entry o) phi.entries)))
    (there phi.result.0 (in_first phi.result.0 phi.result.0 names refl)) value k)

-- ---- terminators

abbrev renamed_exit : Order → Exit → Exit
renamed_exit o Invalid = Invalid
renamed_exit o (Return v) = Return v
renamed_exit o (Edge k target) = Edge k (place_among o.blocks target)

branch_renamed : (o : Order) (v : Val) (taken fallen : ℕ) →
    branch_exit v (place_among o.blocks taken) (place_among o.blocks fallen) ≡ renamed_exit o (branch_exit v taken fallen)
branch_renamed o (Val.Number c) taken fallen = by (nat_eq c 0)
  where
    by : (t : Bool) → (if t then Edge 1 (place_among o.blocks fallen) else Edge 0 (place_among o.blocks taken))
        ≡ renamed_exit o (if t then Edge 1 fallen else Edge 0 taken)
    by true = refl
    by false = refl
branch_renamed o Val.Poison taken fallen = refl
branch_renamed o (Val.Pair x y) taken fallen = refl

case_renamed : (o : Order) (x other : ℕ) (cases : List (ℕ × BlockId)) (k : ℕ) →
    case_exit x (place_among o.blocks other) (map (renamed_case o) cases) k ≡ renamed_exit o (case_exit x other cases k)
case_renamed o x other [] k = refl
case_renamed o x other (c ∷ rest) k =
    ap (λ e. if nat_eq c.0 x then Edge k (place_among o.blocks c.1.0) else e) (case_renamed o x other rest (suc k)) ∙ by (nat_eq c.0 x)
  where
    by : (t : Bool) → (if t then Edge k (place_among o.blocks c.1.0) else renamed_exit o (case_exit x other rest (suc k)))
        ≡ renamed_exit o (if t then Edge k c.1.0 else case_exit x other rest (suc k))
    by true = refl
    by false = refl

switch_renamed : (o : Order) (v : Val) (other : ℕ) (cases : List (ℕ × BlockId)) →
    switch_exit v (place_among o.blocks other) (map (renamed_case o) cases) ≡ renamed_exit o (switch_exit v other cases)
switch_renamed o (Val.Number x) other cases = case_renamed o x other cases 1
switch_renamed o Val.Poison other cases = refl
switch_renamed o (Val.Pair x y) other cases = refl

exit_renamed : (o : Order) (env env' : Env) → SameValues o env env' → (t : Term) → exit_of (renamed_term o t) env' ≡ renamed_exit o (exit_of t env)
exit_renamed o env env' h (Term.Ret w a) = ap Return (value_renamed o env env' h a)
exit_renamed o env env' h (Term.Br to) = refl
exit_renamed o env env' h (Term.CondBr c taken fallen) =
    ap (λ v. branch_exit v (place_among o.blocks taken.0) (place_among o.blocks fallen.0)) (value_renamed o env env' h c)
    ∙ branch_renamed o (operand_value env c) taken.0 fallen.0
exit_renamed o env env' h (Term.Switch w on other cases) =
    ap (λ v. switch_exit v (place_among o.blocks other.0) (map (renamed_case o) cases)) (value_renamed o env env' h on)
    ∙ switch_renamed o (operand_value env on) other.0 cases
exit_renamed o env env' h Term.Unreachable = refl

-- an edge leads to a block of the order
abbrev LeadsTo : Order → Exit → Type 0
LeadsTo o Invalid = Unit {0}
LeadsTo o (Return v) = Unit {0}
LeadsTo o (Edge k target) = is_in target o.blocks ≡ true

branch_leads : (o : Order) (v : Val) (taken fallen : ℕ) → is_in taken o.blocks ≡ true → is_in fallen o.blocks ≡ true → LeadsTo o (branch_exit v taken fallen)
branch_leads o (Val.Number c) taken fallen t f = by (nat_eq c 0)
  where
    by : (b : Bool) → LeadsTo o (if b then Edge 1 fallen else Edge 0 taken)
    by true = f
    by false = t
branch_leads o Val.Poison taken fallen t f = tt
branch_leads o (Val.Pair x y) taken fallen t f = tt

abbrev case_targets : List (ℕ × BlockId) → List ℕ
case_targets cases = map (λ (t : BlockId). t.0) (map (λ (c : ℕ × BlockId). c.1) cases)

case_leads : (o : Order) (x other : ℕ) (cases : List (ℕ × BlockId)) (k : ℕ) → is_in other o.blocks ≡ true → AreAmong (case_targets cases) o.blocks →
    LeadsTo o (case_exit x other cases k)
case_leads o x other [] k t among = t
case_leads o x other (c ∷ rest) k t among =
    by (nat_eq c.0 x) (case_leads o x other rest (suc k) t (λ n i. among n (in_rest n c.1.0 (case_targets rest) i)))
  where
    by : (b : Bool) → LeadsTo o (case_exit x other rest (suc k)) → LeadsTo o (if b then Edge k c.1.0 else case_exit x other rest (suc k))
    by true again = among c.1.0 (in_first c.1.0 c.1.0 (case_targets rest) refl)
    by false again = again

switch_leads : (o : Order) (v : Val) (other : ℕ) (cases : List (ℕ × BlockId)) → is_in other o.blocks ≡ true → AreAmong (case_targets cases) o.blocks →
    LeadsTo o (switch_exit v other cases)
switch_leads o (Val.Number x) other cases t among = case_leads o x other cases 1 t among
switch_leads o Val.Poison other cases t among = tt
switch_leads o (Val.Pair x y) other cases t among = tt

abbrev places_of : Term → List ℕ
places_of t = map (λ (b : BlockId). b.0) (targets t)

exit_leads : (o : Order) (env : Env) (t : Term) → AreAmong (places_of t) o.blocks → LeadsTo o (exit_of t env)
exit_leads o env (Term.Ret w a) among = tt
exit_leads o env (Term.Br to) among = among to.0 (in_first to.0 to.0 [] refl)
exit_leads o env (Term.CondBr c taken fallen) among =
    branch_leads o (operand_value env c) taken.0 fallen.0 (among taken.0 (in_first taken.0 taken.0 (fallen.0 ∷ []) refl))
    (among fallen.0 (in_rest fallen.0 taken.0 (fallen.0 ∷ []) (in_first fallen.0 fallen.0 [] refl)))
exit_leads o env (Term.Switch w on other cases) among =
    switch_leads o (operand_value env on) other.0 cases (among other.0 (in_first other.0 other.0 (case_targets cases) refl))
    (λ n i. among n (in_rest n other.0 (case_targets cases) i))
exit_leads o env Term.Unreachable among = tt

-- what comes of a block that is entered, where it is one of the order
abbrev SameEnters : Order → (ℕ → Ends) → (ℕ → Ends) → Type 0
SameEnters o enter enter' = (target : ℕ) → is_in target o.blocks ≡ true → SameEnds o (enter target) (enter' (place_among o.blocks target))

leaves_same : (o : Order) (promised : Bool) (enter enter' : ℕ → Ends) → SameEnters o enter enter' → (x : Exit) → LeadsTo o x →
    SameEnds o (Leaves promised x enter) (Leaves promised (renamed_exit o x) enter')
leaves_same o promised enter enter' h Invalid leads env env' values answers out = same (out ≡ only Ub)
leaves_same o promised enter enter' h (Return v) leads env env' values answers out = same (out ≡ only (returned promised v))
leaves_same o promised enter enter' h (Edge k target) leads env env' values answers out = h target leads env env' values answers out

term_same : (o : Order) (promised : Bool) (enter enter' : ℕ → Ends) → SameEnters o enter enter' → (t : Term) → AreAmong (places_of t) o.blocks →
    SameEnds o (λ env. Leaves promised (exit_of t env) enter env) (λ env. Leaves promised (exit_of (renamed_term o t) env) enter' env)
term_same o promised enter enter' h t among env env' values answers out =
    subst (λ x. Leaves promised (exit_of t env) enter env answers out ↔ Leaves promised x enter' env' answers out) (sym (exit_renamed o env env' values t))
    (leaves_same o promised enter enter' h (exit_of t env) (exit_leads o env t among) env env' values answers out)

-- ---- blocks, and the function

-- ---- blocks, and the function

front_in : (x : Option ℕ) (n : ℕ) (xs : List ℕ) → is_in n (cons_option x []) ≡ true → is_in n (cons_option x xs) ≡ true
front_in None n xs h = absurd (cc)
front_in (Some y) n xs h = elim (first_or_rest n y [] h) [ inl e ↦ in_first n y xs e | inr t ↦ absurd (cc) ]

pub in_option : (x : Option ℕ) (n : ℕ) (xs : List ℕ) → is_in n xs ≡ true → is_in n (cons_option x xs) ≡ true
in_option None n xs h = h
in_option (Some y) n xs h = in_rest n y xs h

pub is_option : (x : Option ℕ) (n : ℕ) (xs : List ℕ) → x ≡ Some n → is_in n (cons_option x xs) ≡ true
is_option None n xs e = absurd (cc)
is_option (Some y) n xs e = in_first n y xs (sym (same_Some y n e))

abbrev inst_calls : List Inst → List ℕ
inst_calls insts = filter_map (λ (i : Inst). call_place i.op) insts

has_result : (o : Order) (name : Option ValueId) → AreAmong (cons_option (elim name [ None ↦ None | Some v ↦ Some v.0 ]) []) o.values → HasResult o name
has_result o None h = tt
has_result o (Some v) h = h v.0 (in_first v.0 v.0 [] refl)

-- the calls of a function and of the renamed one
calls_there : (o : Order) (f : Function) → Covers o f → (op : Op) → ((c : ℕ) → call_place op ≡ Some c → is_in c o.calls ≡ true) →
    HasCall o f.calls (renamed o f).calls op
calls_there o f h op among place is =
    let there = among place is in
    let call = stands_within f.calls place (h.calls place there) in (
      call.0,
      call.1,
      slice_get-map (renamed_call o) (at_places f.calls o.calls) (place_among o.calls place)
          ∙ ap (option_map (renamed_call o)) (at_its_place f.calls o.calls h.calls place there ∙ call.1),
    )

lines_covered : (o : Order) (f : Function) → Covers o f → (insts : List Inst) → AreAmong (inst_ids insts) o.values →
    AreAmong (inst_calls insts) o.calls → AreCovered o f.calls (renamed o f).calls insts
lines_covered o f h [] results calls = tt
lines_covered o f h (i ∷ rest) results calls = (
  has_result o i.result (λ n t. results n (front_in (elim i.result [ None ↦ None | Some v ↦ Some v.0 ]) n (inst_ids rest) t)),
  calls_there o f h i.op (λ c is. calls c (is_option (call_place i.op) c (inst_calls rest) is)),
  lines_covered o f h rest (λ n t. results n (in_option (elim i.result [ None ↦ None | Some v ↦ Some v.0 ]) n (inst_ids rest) t))
      (λ n t. calls n (in_option (call_place i.op) n (inst_calls rest) t)),
)

pub block_there : (o : Order) (f : Function) → Covers o f → (b : ℕ) (block : Block) → is_in b o.blocks ≡ true → slice_get f.blocks b ≡ Some block →
    slice_get (renamed o f).blocks (place_among o.blocks b) ≡ Some (renamed_block o block)
block_there o f h b block there is =
    slice_get-map (renamed_block o) (at_places f.blocks o.blocks) (place_among o.blocks b)
    ∙ ap (option_map (renamed_block o)) (at_its_place f.blocks o.blocks h.blocks b there ∙ is)

block_same : (o : Order) (f : Function) → Covers o f → (block : Block) → CoversBlock o block → (p : Option ℕ) → IsFrom o p →
    (enter enter' : ℕ → Ends) → SameEnters o enter enter' →
    SameEnds o (InBlock f (Some block) p enter) (InBlock (renamed o f) (Some (renamed_block o block)) (renamed_from o p) enter')
block_same o f h block covers p from enter enter' enters env env' values answers out =
    let phis : List ℕ = map (λ (phi : Phi). phi.result.0) block.phis in
    lines_same o f.calls (renamed o f).calls block.insts
    (λ e. Leaves (has_noundef f.lead) (exit_of block.term e) enter e)
    (λ e. Leaves (has_noundef f.lead) (exit_of (renamed_term o block.term) e) enter' e)
    (lines_covered o f h block.insts (λ n t. covers.results n (in_right n phis (inst_ids block.insts) t)) covers.calls)
    (term_same o (has_noundef f.lead) enter enter' enters block.term covers.targets)
    (after_phis p block.phis env env) (after_phis (renamed_from o p) (map (renamed_phi o) block.phis) env' env')
    (phis_same o p from block.phis (λ n t. covers.results n (in_left n phis (inst_ids block.insts) t)) env env' env env' values values)
    answers out

enter_same : (o : Order) (f : Function) → Covers o f → (n : ℕ) (p : Option ℕ) (b : ℕ) → IsFrom o p → is_in b o.blocks ≡ true →
    SameEnds o (Enter f n p b) (Enter (renamed o f) n (renamed_from o p) (place_among o.blocks b))
enter_same o f h zero p b from there env env' values answers out = same (out ≡ only Going)
enter_same o f h (suc n) p b from there env env' values answers out =
    let found = stands_within f.blocks b (h.blocks b there) in
    let block : Block = found.0 in
    let whole = block_same o f h block (h.each_block b block there found.1) p from (Enter f n (Some b)) (Enter (renamed o f) n (Some (place_among o.blocks b)))
    (λ target t. enter_same o f h n (Some b) target there t) env env' values answers out in
    let P : Option Block → Option Block → Type 0 = λ x y. InBlock f x p (Enter f n (Some b)) env answers out
    ↔ InBlock (renamed o f) y (renamed_from o p) (Enter (renamed o f) n (Some (place_among o.blocks b))) env' answers out in
    subst (λ x. P x (slice_get (renamed o f).blocks (place_among o.blocks b))) (sym found.1)
    (subst (λ y. P (Some block) y) (sym (block_there o f h b block there found.1)) whole)

-- ---- the start, and the header

start_same : (o : Order) (params : List Param) → AreAmong (map (λ (p : Param). p.value.0) params) o.values → (args : List Val) →
    SameValues o (start_of params args) (start_of (map (renamed_param o) params) args)
start_same o [] among args n = refl
start_same o (p ∷ params) among [] n = refl
start_same o (p ∷ params) among (v ∷ args) n =
    let names : List ℕ = map (λ (q : Param). q.value.0) params in
    write_renamed o (start_of params args) (start_of (map (renamed_param o) params) args) p.value.0 v v
    (among p.value.0 (in_first p.value.0 p.value.0 names refl)) refl
    (start_same o params (λ m t. among m (in_rest m p.value.0 names t)) args) n

promise_same : (o : Order) (params : List Param) (args : List Val) → breaks_promise (map (renamed_param o) params) args ≡ breaks_promise params args
promise_same o [] args = refl
promise_same o (p ∷ params) [] = refl
promise_same o (p ∷ params) (v ∷ args) = ap (λ t. has_noundef p.words && is_poison v || t) (promise_same o params args)

pub first_place : (o : Order) (f : Function) → Covers o f → (is_in first_block o.blocks ≡ true) × (place_among o.blocks first_block ≡ first_block)
first_place o f h = go o.blocks h.entry
  where
    go : (blocks : List ℕ) → slice_get blocks 0 ≡ Some 0 → (is_in 0 blocks ≡ true) × (place_among blocks 0 ≡ 0)
    go [] e = absurd (cc)
    go (b ∷ rest) e = let zero_first : b ≡ 0 = cc in
        (in_first 0 b rest (sym zero_first), ap (λ t. if nat_eq t 0 then 0 else suc (place_among rest 0)) zero_first)

pub outs_same : (o : Order) (f : Function) → Covers o f → (args answers : List Val) (n : ℕ) (out : Outcome) →
    Out f args answers n out ↔ Out (renamed o f) args answers n out
outs_same o f h args answers n out =
    let first = first_place o f h in
    let enters = enter_same o f h n None first_block tt first.0 (start_of f.params args) (start_of (map (renamed_param o) f.params) args)
    (start_same o f.params h.parameters args) answers out in
    either_same (breaks_promise f.params args) (breaks_promise (map (renamed_param o) f.params) args) (out ≡ only Ub) (out ≡ only Ub)
    (Enter f n None first_block (start_of f.params args) answers out)
    (Enter (renamed o f) n None first_block (start_of (map (renamed_param o) f.params) args) answers out)
    (promise_same o f.params args) (same (out ≡ only Ub))
    (subst (λ b. Enter f n None first_block (start_of f.params args) answers out
    ↔ Enter (renamed o f) n None b (start_of (map (renamed_param o) f.params) args) answers out) first.1 enters)

pub value_there : (o : Order) (f : Function) → Covers o f → (v : ℕ) → is_in v o.values ≡ true →
    slice_get (renamed o f).values (place_among o.values v) ≡ slice_get f.values v
value_there o f h v there = at_its_place f.values o.values h.values v there

abbrev head_of : Option Value → List (List ℕ) → ParameterHead
head_of found words = record {
  name = option_and_then (λ (v : Value). v.name) found;
  ty = option_map_or (λ (v : Value). v.ty) found (Ty.Int 1);
  words = words;
}

heads_same : (o : Order) (f : Function) → Covers o f → (params : List Param) → AreAmong (map (λ (p : Param). p.value.0) params) o.values →
    map (parameter_head (renamed o f)) (map (renamed_param o) params) ≡ map (parameter_head f) params
heads_same o f h [] among = refl
heads_same o f h (p ∷ params) among =
    let names : List ℕ = map (λ (q : Param). q.value.0) params in
    let rest : List ParameterHead = map (parameter_head (renamed o f)) (map (renamed_param o) params) in
    ap (λ found. head_of found p.words ∷ rest) (value_there o f h p.value.0 (among p.value.0 (in_first p.value.0 p.value.0 names refl)))
    ∙ ap (λ heads. parameter_head f p ∷ heads) (heads_same o f h params (λ m t. among m (in_rest m p.value.0 names t)))

header_same : (o : Order) (f : Function) → Covers o f → SameHeader f (renamed o f)
header_same o f h = record { name = refl; lead = refl; width = refl; parameters = sym (heads_same o f h f.params h.parameters); tail = refl }

pub renaming_refines : (f : Function) (o : Order) → Covers o f → Refines f (renamed o f)
renaming_refines f o h = record {
  header = header_same o f h;
  outcomes = λ args fit answers answer n out is. (out, (outs_same o f h args answers n out).1 is, Allows-refl out);
}

pub renaming_is_refined : (f : Function) (o : Order) → Covers o f → Refines (renamed o f) f
renaming_is_refined f o h =
    let head = header_same o f h in
    record {
      header = record { name = refl; lead = refl; width = refl; parameters = sym head.parameters; tail = refl };
      outcomes = λ args fit answers answer n out is. (out, (outs_same o f h args answers n out).0 is, Allows-refl out);
    }
