-- The lines of a block in step: each is dropped, done alike, or called alike.
use Rattle.std.proofs.Common.{◌≡◌, ℕ, suc, ◌+◌, Bool, true, false, MatchBool, subst₂, Option, Some, None, List, [], ◌∷◌, ◌++◌, All, length, slice_get, refl, sym, subst, ap, ◌∙◌, inl, inr, arith}
use Rattle.vfa_ir.specs.declared.operations.Op.{Op}
use Rattle.vfa_ir.specs.declared.functions.Block.{Block}
use Rattle.vfa_ir.specs.declared.functions.CallOp.{CallOp}
use Rattle.vfa_ir.specs.declared.functions.Function.{Function}
use Rattle.vfa_ir.specs.declared.functions.Inst.{Inst}
use Rattle.vfa_mean.specs.declared.value.Val.{Val}
use Rattle.vfa_mean.specs.Values.{Env}
use Rattle.vfa_mean.specs.Meaning.{Result, Undefined, Gave, Gives, done_in}
use Rattle.vfa_mean.specs.Moments.{At, Moment, does, IsLine, is_call}
use Rattle.vfa_mean.specs.Outcomes.{Ub, Outcome, only, after_event, Ends, with_result, breaks_call, event_of, TakesAnswer, Calls, Does, Lines, IsAnswer}
use Rattle.vfa_mean.proofs.Results.{some_result}
use Rattle.vfa_rules.specs.declared.change.Change.{Change}
use Rattle.vfa_rewrite.specs.Rewritten.{Marks, changed, changed_by, if_stays, if_met, lines_left, call_left, rewritten}
use Rattle.vfa_rewrite.specs.Sound.{Agrees, LineAllows, MayBeDropped, LineIsSound}
use Rattle.vfa_rewrite.proofs.Left.{made_at}
use Rattle.vfa_rewrite.proofs.Agreement.{dropped_result}
use Rattle.vfa_rewrite.proofs.Instructions.{Meets, GoesOn, undefined_meets, operation_does, OnEnd, lines_come, call_goes}

-- what a call is
pub record IsCall (op : Op) : Type 0 where
  pub width : Option ℕ
  pub place : ℕ
  pub is : op ≡ Op.Call width place

pub call_tells : (op : Op) → is_call op ≡ true → IsCall op
call_tells (Op.Bin bin flags w a b) e = absurd (cc)
call_tells (Op.Icmp pred samesign w a b) e = absurd (cc)
call_tells (Op.Select w c a b) e = absurd (cc)
call_tells (Op.Cast cast flags v w a) e = absurd (cc)
call_tells (Op.Freeze w a) e = absurd (cc)
call_tells (Op.Two fun w a b) e = absurd (cc)
call_tells (Op.One fun w a strict) e = absurd (cc)
call_tells (Op.Over over w a b) e = absurd (cc)
call_tells (Op.Part w pair index) e = absurd (cc)
call_tells (Op.Assume c) e = absurd (cc)
call_tells (Op.Call w place) e = record { width = w; place = place; is = refl }

module _ (f : Function) (m : Marks) (b i : ℕ) (block : Block) (inst : Inst) (line : IsLine f b block i inst) (next next' : Ends) (again : GoesOn f m b (suc i) next next') where
  -- ---- an operation

  operation_allowed : is_call inst.op ≡ false → (env : Env) (answers : List Val) (o' : Outcome) → Moment f (At b i) env → All IsAnswer answers →
      (end : Option Env) → LineAllows f m inst env end → OnEnd end next' answers o' → Meets (Does f.calls inst.op inst.result next) env answers o'
  operation_allowed plain env answers o' moment all end (inl undefined) h =
      undefined_meets (Does f.calls inst.op inst.result next) env answers o'
      (operation_does f.calls inst.op inst.result next env answers (only Ub) plain Undefined undefined refl)
  operation_allowed plain env answers o' moment all end (inr g) h =
      let later = again (with_result env inst.result g.value) g.after answers o' (does b block i inst env g.value moment line plain g.gives) g.agrees all
      (subst (λ e. OnEnd e next' answers o') g.comes h) in
      (later.0, operation_does f.calls inst.op inst.result next env answers later.0 plain (Gave g.value) g.gives later.1, later.2)

  -- ---- one that is dropped

  dropped_gives : MayBeDropped m inst → (env env' : Env) (answers : List Val) (o' : Outcome) → Moment f (At b i) env → Agrees f m env env' → All IsAnswer answers →
      next' env' answers o' → (r : Result) → Gives inst.op env r → Meets (Does f.calls inst.op inst.result next) env answers o'
  dropped_gives may env env' answers o' moment agrees all h Undefined gives =
      undefined_meets (Does f.calls inst.op inst.result next) env answers o'
      (operation_does f.calls inst.op inst.result next env answers (only Ub) may.operation Undefined gives refl)
  dropped_gives may env env' answers o' moment agrees all h (Gave v) gives =
      let later = again (with_result env inst.result v) env' answers o' (does b block i inst env v moment line may.operation gives)
      (dropped_result f m env env' inst.result v agrees may.unused) all h in
      (later.0, operation_does f.calls inst.op inst.result next env answers later.0 may.operation (Gave v) gives later.1, later.2)

  dropped_goes : MayBeDropped m inst → GoesOn f m b i (Does f.calls inst.op inst.result next) next'
  dropped_goes may env env' answers o' moment agrees all h =
      let some = some_result (done_in inst.op env) in
      dropped_gives may env env' answers o' moment agrees all h some.0 some.1

-- ---- a call

module _ (f : Function) (m : Marks) (b i : ℕ) (block : Block) (inst : Inst) (line : IsLine f b block i inst) (rest rest' : List Inst) (next next' : Ends)
    (again : GoesOn f m b (suc i) (Lines f.calls rest next) (Lines (rewritten f m).calls rest' next')) (sound : LineIsSound f m b i inst) where
  abbrev behind : Ends
  behind = Lines f.calls rest next

  abbrev behind' : Ends
  behind' = Lines (rewritten f m).calls rest' next'

  known_call : (width : Option ℕ) (k : ℕ) → inst.op ≡ Op.Call width k → (call : CallOp) → slice_get f.calls k ≡ Some call →
      (env env' : Env) (answers : List Val) (o' : Outcome) → Moment f (At b i) env → Agrees f m env env' → All IsAnswer answers →
      Lines (rewritten f m).calls (if_stays (m.stays b i) (changed m b i inst) rest') next' env' answers o' →
      (t : Bool) → breaks_call env call.args ≡ t → Meets (Calls width (Some call) inst.result behind) env answers o'
  known_call width k is call there env env' answers o' moment agrees all h true breaks =
      undefined_meets (Calls width (Some call) inst.result behind) env answers o'
      (subst (λ t. MatchBool t (only Ub ≡ only Ub) ((rest : Outcome) × TakesAnswer width call inst.result behind env answers rest × (only Ub ≡ after_event (event_of env call) rest))) (sym breaks) refl)
  known_call width k is call there env env' answers o' moment agrees all h false promise =
      let stands = sound.called width k call is there in
      let lines' : Lines (rewritten f m).calls (changed_by (Change.Keep (Op.Call width k)) m b i inst ++ rest') next' env' answers o' =
      subst₂ (λ t c. Lines (rewritten f m).calls (if_stays t (changed_by c m b i inst) rest') next' env' answers o') stands.stays (stands.same ∙ ap Change.Keep is) h in
      let there' = made_at (call_left m) f.calls k call there in
      let called' : Calls width (Some (call_left m k call)) inst.result behind' env' answers o' =
      subst (λ c. Calls width c inst.result behind' env' answers o') there' lines' in
      call_goes f m b i block inst line behind behind' again width k is sound.typed call there env env' moment agrees promise stands answers o' all called'

  some_call : (width : Option ℕ) (k : ℕ) → inst.op ≡ Op.Call width k →
      (env env' : Env) (answers : List Val) (o' : Outcome) → Moment f (At b i) env → Agrees f m env env' → All IsAnswer answers →
      Lines (rewritten f m).calls (if_stays (m.stays b i) (changed m b i inst) rest') next' env' answers o' →
      (c : Option CallOp) → slice_get f.calls k ≡ c → Meets (Calls width c inst.result behind) env answers o'
  some_call width k is env env' answers o' moment agrees all h None there = undefined_meets (Calls width None inst.result behind) env answers o' refl
  some_call width k is env env' answers o' moment agrees all h (Some call) there =
      known_call width k is call there env env' answers o' moment agrees all h (breaks_call env call.args) refl

  by_kind : (stays call : Bool) → m.stays b i ≡ stays → is_call inst.op ≡ call →
      GoesOn f m b i (Does f.calls inst.op inst.result behind) (Lines (rewritten f m).calls (if_stays (m.stays b i) (changed m b i inst) rest') next')
  by_kind stays true s c env env' answers o' moment agrees all h =
      let call = call_tells inst.op c in
      subst (λ op. Meets (Does f.calls op inst.result behind) env answers o') (sym call.is)
      (some_call call.width call.place call.is env env' answers o' moment agrees all h (slice_get f.calls call.place) refl)
  by_kind true false s plain env env' answers o' moment agrees all h =
      let stands = sound.operation s plain in
      let came = lines_come (rewritten f m).calls rest' next' answers o' (changed m b i inst) env' stands.operations
      (subst (λ t. Lines (rewritten f m).calls (if_stays t (changed m b i inst) rest') next' env' answers o') s h) in
      operation_allowed f m b i block inst line behind behind' again plain env answers o' moment all came.end
      (stands.allows env env' came.end moment agrees came.comes) came.rest
  by_kind false false s plain env env' answers o' moment agrees all h =
      dropped_goes f m b i block inst line behind behind' again (sound.dropped s) env env' answers o' moment agrees all
      (subst (λ t. Lines (rewritten f m).calls (if_stays t (changed m b i inst) rest') next' env' answers o') s h)

  line_goes : GoesOn f m b i (Does f.calls inst.op inst.result behind) (Lines (rewritten f m).calls (if_stays (m.stays b i) (changed m b i inst) rest') next')
  line_goes = by_kind (m.stays b i) (is_call inst.op) refl refl

-- ---- all lines of a block

-- the list without its first i elements
record IsRest {A : Type 0} (xs : List A) (i : ℕ) (rest : List A) : Type 0 where
  get : (k : ℕ) → slice_get rest k ≡ slice_get xs (i + k)
  count : i + length rest ≡ length xs

behind_first : {A : Type 0} (xs : List A) (i : ℕ) (x : A) (rest : List A) → IsRest xs i (x ∷ rest) → IsRest xs (suc i) rest
behind_first xs i x rest r = record {
  get = λ k. let e : i + suc k ≡ suc i + k = omega arith in r.get (suc k) ∙ ap (slice_get xs) e;
  count = let e = r.count in omega (arith, e);
}

first_of_rest : {A : Type 0} (xs : List A) (i : ℕ) (x : A) (rest : List A) → IsRest xs i (x ∷ rest) → slice_get xs i ≡ Some x
first_of_rest xs i x rest r = let e : i ≡ i + 0 = omega arith in ap (slice_get xs) e ∙ sym (r.get 0)

module _ (f : Function) (m : Marks) (b : ℕ) (block : Block) (there : slice_get f.blocks b ≡ Some block) (next next' : Ends)
    (met : (i : ℕ) (env : Env) → Moment f (At b i) env → m.met b i ≡ true)
    (sound : (i : ℕ) (inst : Inst) → slice_get block.insts i ≡ Some inst → m.met b i ≡ true → LineIsSound f m b i inst)
    (end : GoesOn f m b (length block.insts) next next') where
  lines_from : (rest : List Inst) (i : ℕ) → IsRest block.insts i rest →
      GoesOn f m b i (Lines f.calls rest next) (Lines (rewritten f m).calls (lines_left m b i rest) next')
  lines_from [] i r = let e : length block.insts ≡ i = let c = r.count in omega (arith, c) in subst (λ k. GoesOn f m b k next next') e end
  lines_from (inst ∷ rest) i r = λ env env' answers o' moment agrees all h.
      let stands = first_of_rest block.insts i inst rest r in
      let is_met = met i env moment in
      line_goes f m b i block inst (record { there = there; stands = stands }) rest (lines_left m b (suc i) rest) next next'
      (lines_from rest (suc i) (behind_first block.insts i inst rest r)) (sound i inst stands is_met) env env' answers o' moment agrees all
      (subst (λ t. Lines (rewritten f m).calls (if_met t (if_stays (m.stays b i) (changed m b i inst) (lines_left m b (suc i) rest))) next' env' answers o') is_met h)

  pub lines_go : GoesOn f m b 0 (Lines f.calls block.insts next) (Lines (rewritten f m).calls (lines_left m b 0 block.insts) next')
  lines_go = lines_from block.insts 0 (record { get = λ k. let e : k ≡ 0 + k = omega arith in ap (slice_get block.insts) e; count = omega arith })
