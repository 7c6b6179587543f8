-- Lockstep: where two functions enter the same blocks with related environments, whatever comes of the second is allowed by
-- what comes of the first.
use Rattle.std.proofs.Common.{◌≡◌, ℕ, zero, suc, ◌+◌, Bool, true, false, cond, Option, Some, None, List, [], ◌∷◌, map, length, All, MatchBool, slice_get, refl, sym, subst, arith, ◌⊎◌, inl, inr}
use Rattle.std.specs.Prelude.{◌&&◌, filter}
use Rattle.std.specs.List.{AllByRecursion}
use Rattle.std.proofs.lemmas.List.Elements.{recursion_from_All}
use Rattle.vfa_ir.specs.declared.operations.Op.{Op}
use Rattle.vfa_ir.specs.declared.operations.ValueId.{ValueId}
use Rattle.vfa_ir.specs.declared.functions.Block.{Block}
use Rattle.vfa_ir.specs.declared.functions.CallOp.{CallOp}
use Rattle.vfa_ir.specs.declared.functions.Function.{Function}
use Rattle.vfa_ir.specs.declared.functions.Inst.{Inst}
use Rattle.vfa_mean.specs.declared.value.Val.{Val}
use Rattle.vfa_mean.specs.Values.{Env, AllowsValue}
use Rattle.vfa_mean.specs.Meaning.{Result, Undefined, Gave, Gives, done_in}
use Rattle.vfa_mean.specs.Moments.{Place, Into, At, is_call}
use Rattle.vfa_mean.specs.Outcomes.{Going, Stopped, Ub, Outcome, only, after_event, Ends, with_result, After, has_noundef, breaks_call, event_of, answered, TakesAnswer, Calls, Does, Lines, after_phis, Exit, Invalid, Return, Edge, exit_of, returned, Leaves, InBlock, Enter, first_block, start_of, breaks_promise, parameter_types, AreArguments, IsAnswer, Out}
use Rattle.vfa_mean.specs.Refines.{Allows, AllowsEvent, SameHeader, Refines}
use Rattle.vfa_mean.proofs.Refining.{Allows-refl}
use Rattle.vfa_mean.proofs.Results.{some_result}

-- some outcome of the first allows this one
abbrev pub Meets : Ends → Env → List Val → Outcome → Type 0
Meets next env answers o' = (o : Outcome) × next env answers o × Allows o o'

abbrev pub AreAnswers : List Val → Type 0
AreAnswers = AllByRecursion IsAnswer

-- ---- an operation that is no call

abbrev GivesAndGoes : Op → Option ValueId → Ends → Env → List Val → Outcome → Type 0
GivesAndGoes op name next env answers o = (r : Result) × Gives op env r × After name next env answers r o

pub from_does : (calls : List CallOp) (op : Op) (name : Option ValueId) (next : Ends) (env : Env) (answers : List Val) (o : Outcome) →
    is_call op ≡ false → Does calls op name next env answers o → GivesAndGoes op name next env answers o
from_does calls (Op.Call width call) name next env answers o n d = absurd (cc)
from_does calls (Op.Bin bin flags w a b) name next env answers o n d = d
from_does calls (Op.Icmp pred samesign w a b) name next env answers o n d = d
from_does calls (Op.Select w c a b) name next env answers o n d = d
from_does calls (Op.Cast cast flags v w a) name next env answers o n d = d
from_does calls (Op.Freeze w a) name next env answers o n d = d
from_does calls (Op.Two fun w a b) name next env answers o n d = d
from_does calls (Op.One fun w a strict) name next env answers o n d = d
from_does calls (Op.Over over w a b) name next env answers o n d = d
from_does calls (Op.Part w pair index) name next env answers o n d = d
from_does calls (Op.Assume c) name next env answers o n d = d

pub to_does : (calls : List CallOp) (op : Op) (name : Option ValueId) (next : Ends) (env : Env) (answers : List Val) (o : Outcome) →
    is_call op ≡ false → GivesAndGoes op name next env answers o → Does calls op name next env answers o
to_does calls (Op.Call width call) name next env answers o n d = absurd (cc)
to_does calls (Op.Bin bin flags w a b) name next env answers o n d = d
to_does calls (Op.Icmp pred samesign w a b) name next env answers o n d = d
to_does calls (Op.Select w c a b) name next env answers o n d = d
to_does calls (Op.Cast cast flags v w a) name next env answers o n d = d
to_does calls (Op.Freeze w a) name next env answers o n d = d
to_does calls (Op.Two fun w a b) name next env answers o n d = d
to_does calls (Op.One fun w a strict) name next env answers o n d = d
to_does calls (Op.Over over w a b) name next env answers o n d = d
to_does calls (Op.Part w pair index) name next env answers o n d = d
to_does calls (Op.Assume c) name next env answers o n d = d

both_true : (a b : Bool) → (a && b) ≡ true → (a ≡ true) × (b ≡ true)
both_true true b h = (refl, h)
both_true false b h = absurd (cc)

-- what a call comes to, by whether an argument breaks its promise
abbrev Taken : Option ℕ → Option ValueId → List Val → Bool → CallOp → Ends → Env → Outcome → Type 0
Taken width name answers t c n e o =
    MatchBool t (o ≡ only Ub) ((rest : Outcome) × TakesAnswer width c name n e answers rest × (o ≡ after_event (event_of e c) rest))

-- a line that stays, or what comes next
abbrev pub line_or : Bool → Ends → Ends → Ends
line_or true line next = line
line_or false line next = next

module _ (R : Place → Env → Env → Type 0) where
  -- from related environments at a place the second goes on only as the first allows
  abbrev pub GoesOn : Place → Ends → Ends → Type 0
  GoesOn place next next' = (env env' : Env) → R place env env' → (answers : List Val) → AreAnswers answers → (o' : Outcome) →
      next' env' answers o' → Meets next env answers o'

  -- what the second operation gives is allowed by what the first gives, and what comes after it is related
  abbrev pub ResultMeets : Place → Op → Option ValueId → Env → Env → Result → Type 0
  ResultMeets after op name env env' r' = Gives op env Undefined
      ⊎ ((v : Val) × (v' : Val) × (r' ≡ Gave v') × Gives op env (Gave v) × R after (with_result env name v) (with_result env' name v'))

  abbrev pub StepsTo : Place → Place → Op → Op → Option ValueId → Type 0
  StepsTo place after op op' name = (env env' : Env) → R place env env' → (r' : Result) → Gives op' env' r' → ResultMeets after op name env env' r'

  pub operation_goes : (calls calls' : List CallOp) (place after : Place) (op op' : Op) (name : Option ValueId) (next next' : Ends) →
      is_call op ≡ false → is_call op' ≡ false → StepsTo place after op op' name → GoesOn after next next' →
      GoesOn place (Does calls op name next) (Does calls' op' name next')
  operation_goes calls calls' place after op op' name next next' plain plain' steps go env env' rel answers are o' does =
      let d = from_does calls' op' name next' env' answers o' plain' does in
      by d.0 d.2 (steps env env' rel d.0 d.1)
    where
      by : (r' : Result) → After name next' env' answers r' o' → ResultMeets after op name env env' r' → Meets (Does calls op name next) env answers o'
      by r' goes (inl u) = (only Ub, to_does calls op name next env answers (only Ub) plain (Undefined, u, refl), tt)
      by r' goes (inr (v, v', e, gives, rel')) =
          let goes' : next' (with_result env' name v') answers o' = subst (λ r. After name next' env' answers r o') e goes in
          let m = go (with_result env name v) (with_result env' name v') rel' answers are o' goes' in
          (m.0, to_does calls op name next env answers m.0 plain (Gave v, gives, m.1), m.2)

  -- an operation of the first function alone
  pub dropped_goes : (calls : List CallOp) (place after : Place) (op : Op) (name : Option ValueId) (next next' : Ends) → is_call op ≡ false →
      ((env env' : Env) → R place env env' → (v : Val) → Gives op env (Gave v) → R after (with_result env name v) env') → GoesOn after next next' →
      GoesOn place (Does calls op name next) next'
  dropped_goes calls place after op name next next' plain keeps go env env' rel answers are o' goes =
      let some = some_result (done_in op env) in by some.0 some.1
    where
      by : (r : Result) → Gives op env r → Meets (Does calls op name next) env answers o'
      by Undefined u = (only Ub, to_does calls op name next env answers (only Ub) plain (Undefined, u, refl), tt)
      by (Gave v) gives =
          let m = go (with_result env name v) env' (keeps env env' rel v gives) answers are o' goes in
          (m.0, to_does calls op name next env answers m.0 plain (Gave v, gives, m.1), m.2)

  -- ---- a call

  -- arguments that the first call takes are taken by the second, whose event is allowed; then the results may be related
  pub record CallMeets (after : Place) (width : Option ℕ) (call call' : CallOp) (name : Option ValueId) (env env' : Env) : Type 0 where
    pub kept : breaks_call env call.args ≡ false → breaks_call env' call'.args ≡ false
    pub event : AllowsEvent (event_of env call) (event_of env' call')
    pub result : breaks_call env call.args ≡ false → (answer v : Val) → IsAnswer answer → answered width (has_noundef call.words) answer ≡ Gave v →
        R after (with_result env name v) (with_result env' name v)

  pub call_goes : (place after : Place) (width : Option ℕ) (call call' : CallOp) (name : Option ValueId) (next next' : Ends) → call'.words ≡ call.words →
      ((env env' : Env) → R place env env' → CallMeets after width call call' name env env') → GoesOn after next next' →
      GoesOn place (Calls width (Some call) name next) (Calls width (Some call') name next')
  call_goes place after width call call' name next next' words meets go env env' rel answers are o' goes =
      let m = meets env env' rel in
      by (breaks_call env call.args) refl (breaks_call env' call'.args) refl m goes
    where
      answer_goes : breaks_call env call.args ≡ false → CallMeets after width call call' name env env' → (others : List Val) → AreAnswers others → (rest' : Outcome) →
          TakesAnswer width call' name next' env' others rest' → Meets (TakesAnswer width call name next) env others rest'
      answer_goes fine m [] are rest' stops = (only Stopped, refl, subst (λ o. Allows (only Stopped) o) (sym stops) refl)
      answer_goes fine m (answer ∷ others) are rest' takes =
          given (answered width (has_noundef call.words) answer) refl
          (subst (λ w. After name next' env' others (answered width (has_noundef w) answer) rest') words takes)
        where
          given : (r : Result) → answered width (has_noundef call.words) answer ≡ r → After name next' env' others r rest' →
              (o : Outcome) × After name next env others (answered width (has_noundef call.words) answer) o × Allows o rest'
          given Undefined e goes = (only Ub, subst (λ r. After name next env others r (only Ub)) (sym e) refl, tt)
          given (Gave v) e goes =
              let k = go (with_result env name v) (with_result env' name v) (m.result fine answer v are.0 e) others are.1 rest' goes in
              (k.0, subst (λ r. After name next env others r k.0) (sym e) k.1, k.2)

      by : (t : Bool) → breaks_call env call.args ≡ t → (t' : Bool) → breaks_call env' call'.args ≡ t' → CallMeets after width call call' name env env' →
          Taken width name answers (breaks_call env' call'.args) call' next' env' o' → (o : Outcome) × Taken width name answers (breaks_call env call.args) call next env o × Allows o o'
      by true e t' e' m goes = (only Ub, subst (λ t. Taken width name answers t call next env (only Ub)) (sym e) refl, tt)
      by false e t' e' m goes =
          let fine' = m.kept e in
          let g = subst (λ t. Taken width name answers t call' next' env' o') fine' goes in
          let k = answer_goes e m answers are g.0 g.1 in (
            after_event (event_of env call) k.0,
            subst (λ t. Taken width name answers t call next env (after_event (event_of env call) k.0)) (sym e) (k.0, k.1, refl),
            subst (λ o. Allows (after_event (event_of env call) k.0) o) (sym g.2) (m.event, k.2),
          )

  -- ---- the lines of a block

  -- a line of the first function, and what stands in its place
  abbrev pub LineGoes : List CallOp → List CallOp → ℕ → ℕ → Inst → Bool → Inst → Type 1
  LineGoes calls calls' b i inst kept inst' = (next next' : Ends) → GoesOn (At b (suc i)) next next' →
      GoesOn (At b i) (Does calls inst.op inst.result next) (line_or kept (Does calls' inst'.op inst'.result next') next')

  pub lines_go : (calls calls' : List CallOp) (b n : ℕ) (h : Inst → Inst) (keep : Inst → Bool) (next next' : Ends) → GoesOn (At b n) next next' →
      (rest : List Inst) (i : ℕ) → n ≡ i + length rest →
      ((j k : ℕ) (inst : Inst) → k ≡ i + j → slice_get rest j ≡ Some inst → LineGoes calls calls' b k inst (keep (h inst)) (h inst)) →
      GoesOn (At b i) (Lines calls rest next) (Lines calls' (filter keep (map h rest)) next')
  lines_go calls calls' b n h keep next next' go [] i e lines =
      let same : n ≡ i = omega (arith, e) in subst (λ k. GoesOn (At b k) next next') same go
  lines_go calls calls' b n h keep next next' go (inst ∷ rest) i e lines =
      let later = lines_go calls calls' b n h keep next next' go rest (suc i) (omega (arith, e))
      (λ j k other is there. lines (suc j) k other (omega (arith, is)) there) in
      by (keep (h inst))
      (lines zero i inst (omega arith) refl (Lines calls rest next) (Lines calls' (filter keep (map h rest)) next') later)
    where
      by : (t : Bool) →
          GoesOn (At b i) (Does calls inst.op inst.result (Lines calls rest next))
          (line_or t (Does calls' (h inst).op (h inst).result (Lines calls' (filter keep (map h rest)) next')) (Lines calls' (filter keep (map h rest)) next')) →
          GoesOn (At b i) (Does calls inst.op inst.result (Lines calls rest next))
          (Lines calls' (cond t (h inst ∷ filter keep (map h rest)) (filter keep (map h rest))) next')
      by true goes = goes
      by false goes = goes

  -- ---- how a block is left

  abbrev pub ExitMeets : ℕ → Env → Env → Exit → Exit → Type 0
  ExitMeets b env env' Invalid x' = Unit {0}
  ExitMeets b env env' (Return v) Invalid = ⊥
  ExitMeets b env env' (Return v) (Return v') = AllowsValue v v'
  ExitMeets b env env' (Return v) (Edge k' t') = ⊥
  ExitMeets b env env' (Edge k t) Invalid = ⊥
  ExitMeets b env env' (Edge k t) (Return v') = ⊥
  ExitMeets b env env' (Edge k t) (Edge k' t') = (t ≡ t') × R (Into (Some b) t) env env'

  return_allows : (promised : Bool) (v v' : Val) → AllowsValue v v' → Allows (only (returned promised v)) (only (returned promised v'))
  return_allows true Val.Poison v' a = tt
  return_allows false Val.Poison Val.Poison a = tt
  return_allows false Val.Poison (Val.Number x) a = tt
  return_allows false Val.Poison (Val.Pair x o) a = tt
  return_allows promised (Val.Number x) v' a = subst (λ v. Allows (only (returned promised (Val.Number x))) (only (returned promised v))) a (Allows-refl (only (returned promised (Val.Number x))))
  return_allows promised (Val.Pair x o) v' a = subst (λ v. Allows (only (returned promised (Val.Pair x o))) (only (returned promised v))) a (Allows-refl (only (returned promised (Val.Pair x o))))

  pub leave_goes : (b : ℕ) (promised : Bool) (x x' : Exit) (enter enter' : ℕ → Ends) → ((t : ℕ) → GoesOn (Into (Some b) t) (enter t) (enter' t)) →
      (env env' : Env) → ExitMeets b env env' x x' → (answers : List Val) → AreAnswers answers → (o' : Outcome) →
      Leaves promised x' enter' env' answers o' → Meets (Leaves promised x enter) env answers o'
  leave_goes b promised Invalid x' enter enter' go env env' meets answers are o' leaves = (only Ub, refl, tt)
  leave_goes b promised (Return v) (Return v') enter enter' go env env' meets answers are o' leaves =
      (only (returned promised v), refl, subst (λ o. Allows (only (returned promised v)) o) (sym leaves) (return_allows promised v v' meets))
  leave_goes b promised (Return v) Invalid enter enter' go env env' meets answers are o' leaves = absurd meets
  leave_goes b promised (Return v) (Edge k' t') enter enter' go env env' meets answers are o' leaves = absurd meets
  leave_goes b promised (Edge k t) Invalid enter enter' go env env' meets answers are o' leaves = absurd meets
  leave_goes b promised (Edge k t) (Return v') enter enter' go env env' meets answers are o' leaves = absurd meets
  leave_goes b promised (Edge k t) (Edge k' t') enter enter' go env env' meets answers are o' leaves =
      go t env env' meets.1 answers are o' (subst (λ u. enter' u env' answers o') (sym meets.0) leaves)

  -- ---- blocks

  module _ (f g : Function) (header : SameHeader f g) where
    pub record BlockMeets (b : ℕ) (block : Block) : Type 1 where
      pub other : Block
      pub there : slice_get g.blocks b ≡ Some other
      pub phis : (p : Option ℕ) (env env' : Env) → R (Into p b) env env' →
          R (At b 0) (after_phis p block.phis env env) (after_phis p other.phis env' env')
      pub lines : (next next' : Ends) → GoesOn (At b (length block.insts)) next next' →
          GoesOn (At b 0) (Lines f.calls block.insts next) (Lines g.calls other.insts next')
      pub exit : (env env' : Env) → R (At b (length block.insts)) env env' → ExitMeets b env env' (exit_of block.term env) (exit_of other.term env')

    module _ (blocks : (b : ℕ) (block : Block) → slice_get f.blocks b ≡ Some block → BlockMeets b block) where
      pub enter_goes : (n : ℕ) (p : Option ℕ) (b : ℕ) → GoesOn (Into p b) (Enter f n p b) (Enter g n p b)
      enter_goes zero p b env env' rel answers are o' going = (only Going, refl, subst (λ o. Allows (only Going) o) (sym going) refl)
      enter_goes (suc n) p b env env' rel answers are o' goes = by (λ t. enter_goes n (Some b) t) (slice_get f.blocks b) refl
        where
          by : ((t : ℕ) → GoesOn (Into (Some b) t) (Enter f n (Some b) t) (Enter g n (Some b) t)) → (o : Option Block) → slice_get f.blocks b ≡ o → (e : Outcome) × InBlock f o p (Enter f n (Some b)) env answers e × Allows e o'
          by again None e = (only Ub, refl, tt)
          by again (Some block) e =
              let m = blocks b block e in
              let inside : InBlock g (Some m.other) p (Enter g n (Some b)) env' answers o' =
              subst (λ o. InBlock g o p (Enter g n (Some b)) env' answers o') m.there goes in
              m.lines (λ end. Leaves (has_noundef f.lead) (exit_of block.term end) (Enter f n (Some b)) end)
              (λ end. Leaves (has_noundef g.lead) (exit_of m.other.term end) (Enter g n (Some b)) end)
              (λ last last' at_end left are_left last_o leaves.
              leave_goes b (has_noundef f.lead) (exit_of block.term last) (exit_of m.other.term last') (Enter f n (Some b)) (Enter g n (Some b))
              again last last' (m.exit last last' at_end) left are_left last_o
              (subst (λ lead. Leaves (has_noundef lead) (exit_of m.other.term last') (Enter g n (Some b)) last' left last_o) (sym header.lead) leaves))
              (after_phis p block.phis env env) (after_phis p m.other.phis env' env') (m.phis p env env' rel) answers are o' inside

      -- the second function refines the first, where both begin with related environments
      pub in_step : g.params ≡ f.params →
          ((args : List Val) → AreArguments (parameter_types f) args → breaks_promise f.params args ≡ false →
          R (Into None first_block) (start_of f.params args) (start_of f.params args)) → Refines f g
      in_step same begin = record {
        header = header;
        outcomes = λ args fit answers answer n o' out. by args fit answers answer n o'
            (subst (λ params. MatchBool (breaks_promise params args) (o' ≡ only Ub) (Enter g n None first_block (start_of params args) answers o')) same out);
      }
        where
          by : (args : List Val) → AreArguments (parameter_types f) args → (answers : List Val) → All IsAnswer answers → (n : ℕ) → (o' : Outcome) →
              MatchBool (breaks_promise f.params args) (o' ≡ only Ub) (Enter g n None first_block (start_of f.params args) answers o') →
              (o : Outcome) × Out f args answers n o × Allows o o'
          by args fit answers answer n o' out = at (breaks_promise f.params args) refl out
            where
              at : (t : Bool) → breaks_promise f.params args ≡ t →
                  MatchBool t (o' ≡ only Ub) (Enter g n None first_block (start_of f.params args) answers o') →
                  (o : Outcome) × MatchBool t (o ≡ only Ub) (Enter f n None first_block (start_of f.params args) answers o) × Allows o o'
              at true e out = (only Ub, refl, tt)
              at false e out =
                  enter_goes n None first_block (start_of f.params args) (start_of f.params args) (begin args fit e)
                  answers (recursion_from_All IsAnswer answers answer) o' out
