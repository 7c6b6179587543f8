-- Truth of states along the instructions of a block, its edges, and the phis of the next.
use Rattle.std.proofs.Common.{◌≡◌, ℕ, zero, suc, Bool, true, false, if◌then◌else◌, Option, Some, None, IsSomeAnd, List, [], ◌∷◌, take, slice_get, refl, sym, ◌∙◌, ap, subst, lit<}
use Rattle.std.specs.Option.{option_map}
use Rattle.std.proofs.lemmas.Nat.{pow_pos}
use Rattle.std.proofs.lemmas.Option.{same_Some}
use Rattle.vfa_ir.specs.declared.operations.Op.{Op}
use Rattle.vfa_ir.specs.declared.operations.Ty.{Ty}
use Rattle.vfa_ir.specs.declared.operations.ValueId.{ValueId}
use Rattle.vfa_ir.specs.declared.functions.Block.{Block}
use Rattle.vfa_ir.specs.declared.functions.CallOp.{CallOp}
use Rattle.vfa_ir.specs.declared.functions.Function.{Function}
use Rattle.vfa_ir.specs.declared.functions.Inst.{Inst}
use Rattle.vfa_ir.specs.Defined.{Defined, op_names}
use Rattle.vfa_ir.specs.Printable.{IsPrintable, PrintableBlock, PrintableInst, HasItsResult, op_type}
use Rattle.vfa_ir.specs.Typed.{Typed}
use Rattle.vfa_ir.specs.Walks.{is_in}
use Rattle.vfa_mean.specs.declared.value.Val.{Val}
use Rattle.vfa_mean.specs.Values.{Env}
use Rattle.vfa_mean.specs.Meaning.{Gave, Gives}
use Rattle.vfa_mean.specs.Moments.{At, Moment, IsLine, IsCallOf, is_call}
use Rattle.vfa_mean.specs.FreshOperands.{DefinesOnce}
use Rattle.vfa_mean.specs.Outcomes.{with_value, with_result, has_noundef}
use Rattle.vfa_values.specs.Answers.{Answers}
use Rattle.vfa_values.specs.Conditions.{IsOf}
use Rattle.vfa_values.specs.Laws.{AreTyped, AreSound}
use Rattle.vfa_cond.specs.Conditions.{HasTypedEquations}
use Rattle.vfa_cond.specs.Equations.{equation}
use Rattle.vfa_cond.specs.Narrowing.{Change, and_then}
use Rattle.vfa_cond.specs.States.{AbstractState, with_live}
use Rattle.vfa_cond.specs.Truth.{IsTrueState}
use Rattle.vfa_cond.proofs.Truthful.{Met}
use Rattle.vfa_walk.specs.Stepping.{with_result as state_with_result, promises, result_fact, redefined, transferred, is_division, told_apart, survived, after_inst, after_insts}
use Rattle.vfa_walk.proofs.TruthEquations.{own_equation, own_result_is_new}
use Rattle.vfa_walk.proofs.TruthFacts.{with_result_typed, call_type, equations as typed_equations_of}
use Rattle.vfa_walk.proofs.TruthLines.{divisor_is_not_zero, assumption_is_one, promise_of, keeps_promise}
use Rattle.vfa_walk.proofs.TruthRuns.{Through, enters, passes, asks, through_moment}
use Rattle.vfa_walk.proofs.TruthStates.{redefined_true, defined_true, transfer_holds, told_equal_met, told_apart_met}
use Rattle.vfa_walk.proofs.TruthTypes.{IsTypedOp, each_of, line_is_typed, line_type, number_operand, bit_operand}
use Rattle.vfa_walk.proofs.TruthValues.{AreTypedValues, values_are_typed, operand_is_typed, answer_is_typed}

-- ---- options

pub mapped_met : {S : Type 0} (P Q : S → Type 0) (g : S → S) (o : Option S) → ((s : S) → P s → Q (g s)) → IsSomeAnd o P → IsSomeAnd (option_map g o) Q
mapped_met P Q g None keeps t = absurd t
mapped_met P Q g (Some s) keeps t = keeps s t

pub then_met : {V : Type 0} (P Q : AbstractState V → Type 0) (o : Option (AbstractState V)) (next : Change V) → ((s : AbstractState V) → P s → IsSomeAnd (next s) Q) → IsSomeAnd o P →
    IsSomeAnd (and_then o next) Q
then_met P Q None next keeps t = absurd t
then_met P Q (Some s) next keeps t = keeps s t

-- ---- one instruction more

module _ {V : Type 0} (answers : Answers V) (f : Function) where
  nothing_more : (o : Option (AbstractState V)) → and_then o (after_insts answers f []) ≡ o
  nothing_more None = refl
  nothing_more (Some s) = refl

  same_next : (o : Option (AbstractState V)) (next next' : Change V) → ((s : AbstractState V) → next s ≡ next' s) → and_then o next ≡ and_then o next'
  same_next None next next' same = refl
  same_next (Some s) next next' same = same s

  in_turn : (o : Option (AbstractState V)) (next last : Change V) → and_then o (λ s. and_then (next s) last) ≡ and_then (and_then o next) last
  in_turn None next last = refl
  in_turn (Some s) next last = refl

  take_none : (insts : List Inst) → take 0 insts ≡ []
  take_none [] = refl
  take_none (i ∷ rest) = refl

  pub after_none : (insts : List Inst) (s : AbstractState V) → after_insts answers f (take 0 insts) s ≡ Some s
  after_none insts s = ap (λ l. after_insts answers f l s) (take_none insts)

  pub after_more : (insts : List Inst) (i : ℕ) (inst : Inst) (s : AbstractState V) → slice_get insts i ≡ Some inst →
      after_insts answers f (take (suc i) insts) s ≡ and_then (after_insts answers f (take i insts) s) (after_inst answers f inst)
  after_more [] i inst s e = absurd cc
  after_more (x ∷ rest) zero inst s e =
      let same : x ≡ inst = same_Some x inst e in
      same_next (after_inst answers f x s) (after_insts answers f (take 0 rest)) (λ t. Some t) (after_none rest)
      ∙ (unit (after_inst answers f x s) ∙ ap (λ (k : Inst). after_inst answers f k s) same)
    where
      unit : (o : Option (AbstractState V)) → and_then o (λ t. Some t) ≡ o
      unit None = refl
      unit (Some t) = refl
  after_more (x ∷ rest) (suc i) inst s e =
      same_next (after_inst answers f x s) (after_insts answers f (take (suc i) rest)) (λ t. and_then (after_insts answers f (take i rest) t) (after_inst answers f inst)) (λ t. after_more rest i inst t e)
      ∙ in_turn (after_inst answers f x s) (after_insts answers f (take i rest)) (after_inst answers f inst)

module _ {V : Type 0} (holds : V → Val → Type 0) (ty : V → Ty) (proper : V → Type 0) (answers : Answers V)
    (types : AreTyped (IsOf ty proper) answers) (sound : AreSound holds (IsOf ty proper) answers)
    (f : Function) (once : DefinesOnce f) (defined : Defined f) (printable : IsPrintable f) (typed : Typed f) where
  abbrev pub TrueAt : Env → AbstractState V → Type 0
  TrueAt env s = Met holds ty proper answers types sound f env s

  equations_of : HasTypedEquations f
  equations_of = typed_equations_of ty proper answers types f printable typed

  -- ---- what a run that goes on tells

  survived_met : (env : Env) (s : AbstractState V) (op : Op) (v : Val) → AreTypedValues f env → IsTypedOp f op → Gives op env (Gave v) → TrueAt env s → IsSomeAnd (survived answers f op s) (TrueAt env)
  survived_met env s (Op.Bin bin flags w a b) v values t gives met = by (is_division bin) refl
    where
      by : (division : Bool) → is_division bin ≡ division → IsSomeAnd (if division then told_apart answers f b w 0 s else Some s) (TrueAt env)
      by true e = told_apart_met holds ty proper answers types sound f env equations_of b w 0 s (number_operand f w b t.ranges.1.of_width t.ranges.1.second t.operands.second) (pow_pos w) met
          (divisor_is_not_zero env bin flags w a b v e gives)
      by false e = met
  survived_met env s (Op.Icmp pred samesign w a b) v values t gives met = met
  survived_met env s (Op.Select w c a b) v values t gives met = met
  survived_met env s (Op.Cast cast flags from to a) v values t gives met = met
  survived_met env s (Op.Freeze w a) v values t gives met = met
  survived_met env s (Op.Two fun w a b) v values t gives met = met
  survived_met env s (Op.One fun w a strict) v values t gives met = met
  survived_met env s (Op.Over over w a b) v values t gives met = met
  survived_met env s (Op.Part w pair index) v values t gives met = met
  survived_met env s (Op.Assume c) v values t gives met =
      let of = bit_operand f c t.ranges t.operands in
      told_equal_met holds ty proper answers types sound f env equations_of c 1 1 s of (lit< tt) met (assumption_is_one env c v (operand_is_typed f env 1 c values of) gives)
  survived_met env s (Op.Call width place) v values t gives met = met

  -- ---- the result

  fact_is_transfer : (op : Op) (s : AbstractState V) → is_call op ≡ false → result_fact answers f op s ≡ transferred answers op s
  fact_is_transfer (Op.Bin bin flags w a b) s e = refl
  fact_is_transfer (Op.Icmp pred samesign w a b) s e = refl
  fact_is_transfer (Op.Select w c a b) s e = refl
  fact_is_transfer (Op.Cast cast flags from to a) s e = refl
  fact_is_transfer (Op.Freeze w a) s e = refl
  fact_is_transfer (Op.Two fun w a b) s e = refl
  fact_is_transfer (Op.One fun w a strict) s e = refl
  fact_is_transfer (Op.Over over w a b) s e = refl
  fact_is_transfer (Op.Part w pair index) s e = refl
  fact_is_transfer (Op.Assume c) s e = refl
  fact_is_transfer (Op.Call width place) s e = absurd cc

  result_true : (env : Env) (s : AbstractState V) (op : Op) (result : Option ValueId) (v : Val) → AreTypedValues f env → IsTypedOp f op → is_call op ≡ false → Gives op env (Gave v) →
      ((r : ValueId) → result ≡ Some r → (own : Op) → equation f r.0 ≡ Some own → own ≡ op) → ((r : ValueId) → result ≡ Some r → is_in r.0 (op_names f op) ≡ true → ⊥) → TrueAt env s →
      IsTrueState holds f (state_with_result answers f op result s) (with_result env result v)
  result_true env s op None v values t no_call gives only new met = met.truth
  result_true env s op (Some r) v values t no_call gives only new met =
      let d : V = result_fact answers f op s in
      let at : holds d v = subst (λ x. holds x v) (sym (fact_is_transfer op s no_call)) (transfer_holds holds ty proper answers types sound f env s values met.facts met.truth op v t no_call gives) in
      subst (λ c. IsTrueState holds f (if c then redefined f r.0 d s else with_live (redefined f r.0 d s) r.0 true) (with_value env r.0 v)) (sym no_call)
      (defined_true holds ty proper answers types sound f env s r.0 d v op (only r refl) (new r refl) gives met.truth at)

  -- an operation
  pub operation_met : (b i : ℕ) (block : Block) (inst : Inst) (env : Env) (v : Val) (s : AbstractState V) → Moment f (At b i) env → IsLine f b block i inst → is_call inst.op ≡ false →
      Gives inst.op env (Gave v) → TrueAt env s → IsSomeAnd (after_inst answers f inst s) (TrueAt (with_result env inst.result v))
  operation_met b i block inst env v s m line no_call gives met =
      let values : AreTypedValues f env = values_are_typed f printable typed (At b i) env m in
      let t : IsTypedOp f inst.op = line_is_typed f printable typed b i block inst line in
      mapped_met (TrueAt env) (TrueAt (with_result env inst.result v)) (state_with_result answers f inst.op inst.result) (survived answers f inst.op s)
      (λ u met'. record {
        truth = result_true env u inst.op inst.result v values t no_call gives
            (λ r e own is. (own_equation f once b i block inst r own line e is).1)
            (λ r e used. own_result_is_new f once defined b i block inst r env m line e used) met';
        facts = with_result_typed ty proper answers types f u inst.op inst.result met'.facts t (λ r e. line_type f printable b i block inst r line e);
      })
      (survived_met env s inst.op v values t gives met)

  -- ---- calls

  call_true : (env : Env) (s : AbstractState V) (width : Option ℕ) (place : ℕ) (call : CallOp) (answer v : Val) (result : Option ValueId) → IsTypedOp f (Op.Call width place) →
      HasItsResult (Op.Call width place) result → IsCallOf f env width place call answer v → ((r : ValueId) → result ≡ Some r → (own : Op) → equation f r.0 ≡ Some own → ⊥) → TrueAt env s →
      IsTrueState holds f (state_with_result answers f (Op.Call width place) result s) (with_result env result v)
  call_true env s width place call answer v None t has of none met = met.truth
  call_true env s None place call answer v (Some r) t has of none met = absurd has
  call_true env s (Some w) place call answer v (Some r) t has of none met =
      redefined_true holds ty proper answers types sound f env s r.0 (answers.any (Ty.Int w) (promises f place)) v (none r refl) met.truth
      (sound.any (Ty.Int w) (promises f place) v (call_type ty proper answers types f (Some w) place t.ranges) (answer_is_typed (Some w) place (has_noundef call.words) answer v of.gives)
      (λ e. promise_of f place call of.there ∙ keeps_promise w (has_noundef call.words) answer v of.possible of.gives e))

  pub call_met : (b i : ℕ) (block : Block) (inst : Inst) (env : Env) (v : Val) (s : AbstractState V) (width : Option ℕ) (place : ℕ) (call : CallOp) (answer : Val) → IsLine f b block i inst →
      inst.op ≡ Op.Call width place → IsCallOf f env width place call answer v → TrueAt env s → IsSomeAnd (after_inst answers f inst s) (TrueAt (with_result env inst.result v))
  call_met b i block inst env v s width place call answer line is of met =
      let t : IsTypedOp f inst.op = line_is_typed f printable typed b i block inst line in
      let call_op : Op = Op.Call width place in
      let own_typed : IsTypedOp f call_op = subst (IsTypedOp f) is t in
      let has : HasItsResult call_op inst.result =
      subst (λ (op : Op). HasItsResult op inst.result) is (each_of (PrintableInst f) block.insts i inst (each_of (PrintableBlock f) f.blocks b block printable.blocks line.there).insts line.stands).result in
      subst (λ (op : Op). IsSomeAnd (option_map (state_with_result answers f op inst.result) (survived answers f op s)) (TrueAt (with_result env inst.result v))) (sym is) (record {
        truth = call_true env s width place call answer v inst.result own_typed has of
            (λ r e own is_own. let no_call = (own_equation f once b i block inst r own line e is_own).0 in let yes : is_call inst.op ≡ true = ap is_call is in cc) met;
        facts = with_result_typed ty proper answers types f s call_op inst.result met.facts own_typed
            (λ r e. line_type f printable b i block inst r line e ∙ ap op_type is);
      })

  -- ---- the instructions of a block

  same_block : (b : ℕ) (block other : Block) → slice_get f.blocks b ≡ Some block → slice_get f.blocks b ≡ Some other → other ≡ block
  same_block b block other e d = cc

  pub through_met : (b : ℕ) (block : Block) (entry : Env) (s : AbstractState V) → slice_get f.blocks b ≡ Some block → TrueAt entry s → (i : ℕ) (env : Env) → Through f b entry i env →
      IsSomeAnd (after_insts answers f (take i block.insts) s) (TrueAt env)
  through_met b block entry s there met i env (enters m) = subst (λ o. IsSomeAnd o (TrueAt entry)) (sym (after_none answers f block.insts s)) met
  through_met b block entry s there met i env (passes other k inst old v t line no_call gives) =
      let same : other ≡ block = same_block b block other there line.there in
      let stands : slice_get block.insts k ≡ Some inst = subst (λ (x : Block). slice_get x.insts k ≡ Some inst) same line.stands in
      subst (λ o. IsSomeAnd o (TrueAt (with_result old inst.result v))) (sym (after_more answers f block.insts k inst s stands))
      (then_met (TrueAt old) (TrueAt (with_result old inst.result v)) (after_insts answers f (take k block.insts) s) (after_inst answers f inst)
      (λ u met'. operation_met b k other inst old v u (through_moment f b entry k old t) line no_call gives met')
      (through_met b block entry s there met k old t))
  through_met b block entry s there met i env (asks other k inst old v width place call answer t line is of) =
      let same : other ≡ block = same_block b block other there line.there in
      let stands : slice_get block.insts k ≡ Some inst = subst (λ (x : Block). slice_get x.insts k ≡ Some inst) same line.stands in
      subst (λ o. IsSomeAnd o (TrueAt (with_result old inst.result v))) (sym (after_more answers f block.insts k inst s stands))
      (then_met (TrueAt old) (TrueAt (with_result old inst.result v)) (after_insts answers f (take k block.insts) s) (after_inst answers f inst)
      (λ u met'. call_met b k other inst old v u width place call answer line is of met')
      (through_met b block entry s there met k old t))
