-- Truth of states: what an instruction makes of a state is true after it, where the state was true before.
use Rattle.std.proofs.Common.{◌≡◌, ◌<◌, ◌^◌, not, ℕ, Bool, true, false, nat_eq, if◌then◌else◌, Option, Some, None, is_some, IsTrue, IsSomeAnd, unwrap_or, refl, sym, subst, eqb-true}
use Rattle.std.specs.Option.{ForSome}
use Rattle.vfa_ir.specs.declared.operations.Op.{Op}
use Rattle.vfa_ir.specs.declared.operations.Operand.{Operand}
use Rattle.vfa_ir.specs.declared.operations.Pred.{Pred}
use Rattle.vfa_ir.specs.declared.operations.Ty.{Ty}
use Rattle.vfa_ir.specs.declared.operations.ValueId.{ValueId}
use Rattle.vfa_ir.specs.declared.functions.Function.{Function}
use Rattle.vfa_ir.specs.Defined.{op_names}
use Rattle.vfa_ir.specs.Predicates.{by_order}
use Rattle.vfa_ir.specs.Typed.{HasType}
use Rattle.vfa_ir.specs.Walks.{is_in}
use Rattle.vfa_word.specs.Numbers.{IsWidth}
use Rattle.vfa_word.specs.Operations.{equal, unsigned_less, signed_less}
use Rattle.vfa_mean.specs.declared.value.Val.{Val}
use Rattle.vfa_mean.specs.Values.{Env, IsValueOf, operand_value}
use Rattle.vfa_mean.specs.Meaning.{Gave, Gives, operand_a, operand_b, operand_c}
use Rattle.vfa_mean.specs.Moments.{is_call}
use Rattle.vfa_mean.specs.Outcomes.{with_value}
use Rattle.vfa_values.specs.Answers.{Answers}
use Rattle.vfa_values.specs.Conditions.{IsOf, IsType}
use Rattle.vfa_values.specs.Laws.{AreTyped, AreSound}
use Rattle.vfa_values.specs.Operands.{EachOperand}
use Rattle.vfa_cond.specs.declared.want.Want.{Want}
use Rattle.vfa_cond.specs.Conditions.{HasTypedEquations, IsNumberOperand, AreFacts}
use Rattle.vfa_cond.specs.Equations.{equation}
use Rattle.vfa_cond.specs.Narrowing.{deepest}
use Rattle.vfa_cond.specs.States.{AbstractState, with_live}
use Rattle.vfa_cond.specs.Truth.{IsTrueState}
use Rattle.vfa_cond.proofs.Fitting.{some_of, has_type, and_first, and_second}
use Rattle.vfa_cond.proofs.Truthful.{Met, narrows}
use Rattle.vfa_walk.specs.Stepping.{fact_of, transferred, mentions, ended, redefined, told, told_equal, told_apart}
use Rattle.vfa_walk.proofs.TruthEquations.{not_mentioned, gives_same}
use Rattle.vfa_walk.proofs.TruthFacts.{fact_a, fact_b, fact_c, operands_typed}
use Rattle.vfa_walk.proofs.TruthLines.{IsOther, holds_equal, holds_apart}
use Rattle.vfa_walk.proofs.TruthTypes.{IsTypedOp, written_width, is_operation, number_operand, bit_operand}
use Rattle.vfa_walk.proofs.TruthValues.{AreTypedValues}

module _ {V : Type 0} (holds : V → Val → Type 0) (ty : V → Ty) (proper : V → Type 0) (answers : Answers V)
    (types : AreTyped (IsOf ty proper) answers) (sound : AreSound holds (IsOf ty proper) answers) (f : Function) where
  -- ---- another value of a name

  same_fact : (env : Env) (s : AbstractState V) (v u : ℕ) (d : V) (w : Val) (b : Bool) → holds d w → ForSome (s.fact u) (λ x. holds x (env u)) →
      ForSome (if b then Some d else s.fact u) (λ x. holds x (if b then w else env u))
  same_fact env s v u d w true at old = some_of (λ x. holds x w) d at
  same_fact env s v u d w false at old = old

  -- the operands of an equation that does not mention the name have the values that they had
  apart_from : (env : Env) (v : ℕ) (w : Val) (op : Op) → is_in v (op_names f op) ≡ false → (x : ℕ) → is_in x (op_names f op) ≡ true → env x ≡ with_value env v w x
  apart_from env v w op absent x used = by (nat_eq x v) refl
    where
      by : (same : Bool) → nat_eq x v ≡ same → env x ≡ (if same then w else env x)
      by true e = absurd (let here : is_in v (op_names f op) ≡ true = subst (λ y. is_in y (op_names f op) ≡ true) (eqb-true x v e) used in cc)
      by false e = refl

  others_stay : (env : Env) (s : AbstractState V) (v u : ℕ) (w : Val) (op : Op) → IsTrueState holds f s env → nat_eq u v ≡ false → (ended f v s).live u ≡ true →
      equation f u ≡ Some op → Gives op (with_value env v w) (Gave (env u))
  others_stay env s v u w op is_true apart live e =
      let was : s.live u ≡ true = and_first (s.live u) (not (mentions f u v)) live in
      let absent : mentions f u v ≡ false = not_true (mentions f u v) (and_second (s.live u) (not (mentions f u v)) live) in
      gives_same f op env (with_value env v w) (Gave (env u)) (apart_from env v w op (not_mentioned f u v op e absent)) (is_true.equations u was op e)
    where
      not_true : (b : Bool) → not b ≡ true → b ≡ false
      not_true true h = absurd cc
      not_true false h = refl

  -- a name without an equation, as that of a phi or of a call
  pub redefined_true : (env : Env) (s : AbstractState V) (v : ℕ) (d : V) (w : Val) → ((op : Op) → equation f v ≡ Some op → ⊥) → IsTrueState holds f s env → holds d w →
      IsTrueState holds f (redefined f v d s) (with_value env v w)
  redefined_true env s v d w none is_true at = record {
    facts = λ u. same_fact env s v u d w (nat_eq u v) at (is_true.facts u);
    equations = λ u live op e. by u op (nat_eq u v) refl live e;
  }
    where
      by : (u : ℕ) (op : Op) (same : Bool) → nat_eq u v ≡ same → (ended f v s).live u ≡ true → equation f u ≡ Some op → Gives op (with_value env v w) (Gave (if same then w else env u))
      by u op true t live e = absurd (none op (subst (λ k. equation f k ≡ Some op) (eqb-true u v t) e))
      by u op false t live e = others_stay env s v u w op is_true t live e

  -- the result of an operation, with its equation
  pub defined_true : (env : Env) (s : AbstractState V) (v : ℕ) (d : V) (w : Val) (own : Op) → ((op : Op) → equation f v ≡ Some op → op ≡ own) → (is_in v (op_names f own) ≡ true → ⊥) →
      Gives own env (Gave w) → IsTrueState holds f s env → holds d w → IsTrueState holds f (with_live (redefined f v d s) v true) (with_value env v w)
  defined_true env s v d w own only new gives is_true at = record {
    facts = λ u. same_fact env s v u d w (nat_eq u v) at (is_true.facts u);
    equations = λ u live op e. by u op (nat_eq u v) refl live e;
  }
    where
      absent : (b : Bool) → (b ≡ true → ⊥) → b ≡ false
      absent true h = absurd (h refl)
      absent false h = refl

      by : (u : ℕ) (op : Op) (same : Bool) → nat_eq u v ≡ same → (if same then true else (ended f v s).live u) ≡ true → equation f u ≡ Some op →
          Gives op (with_value env v w) (Gave (if same then w else env u))
      by u op true t live e =
          let is : op ≡ own = only op (subst (λ k. equation f k ≡ Some op) (eqb-true u v t) e) in
          subst (λ (o : Op). Gives o (with_value env v w) (Gave w)) (sym is)
          (gives_same f own env (with_value env v w) (Gave w) (apart_from env v w own (absent (is_in v (op_names f own)) new)) gives)
      by u op false t live e = others_stay env s v u w op is_true t live e

  -- ---- what is known of operands holds

  known_holds : (t : Ty) (o : Option V) (v : Val) → IsType t → IsValueOf t v → ForSome o (λ d. holds d v) → holds (unwrap_or o (answers.any t false)) v
  known_holds t None v is fits at = sound.any t false v is fits (λ _. refl)
  known_holds t (Some d) v is fits at = at d refl

  module _ (env : Env) (s : AbstractState V) (values : AreTypedValues f env) (facts : AreFacts ty proper f s) (is_true : IsTrueState holds f s env) where
    pub operand_holds : (w : ℕ) (x : Operand) → IsNumberOperand f w x → holds (fact_of answers s (Ty.Int w) x) (operand_value env x)
    operand_holds w (Operand.Value v) of =
        known_holds (Ty.Int w) (s.fact v.0) (env v.0) of.width (subst (λ t. IsValueOf t (env v.0)) (has_type f v (Ty.Int w) of.typed) (values v.0)) (is_true.facts v.0)
    operand_holds w (Operand.Literal bits) of = (sound.literal w bits (Val.Number bits) of.width of.range).1 refl
    operand_holds w Operand.Poison of = sound.poison (Ty.Int w) of.width

    pair_holds : (w : ℕ) (pair : ValueId) → IsWidth w → HasType f (Ty.Pair w) pair → holds (fact_of answers s (Ty.Pair w) (Operand.Value pair)) (env pair.0)
    pair_holds w pair width typed =
        known_holds (Ty.Pair w) (s.fact pair.0) (env pair.0) width (subst (λ t. IsValueOf t (env pair.0)) (has_type f pair (Ty.Pair w) typed) (values pair.0)) (is_true.facts pair.0)

    a_holds : Op → Type 0
    a_holds op = holds (fact_a ty proper answers types f s op) (operand_value env (operand_a op))

    operands_hold : (op : Op) → IsTypedOp f op → EachOperand op (λ _. holds (fact_a ty proper answers types f s op) (operand_value env (operand_a op)))
        (λ _. holds (fact_b ty proper answers types f s op) (operand_value env (operand_b op))) (λ _. holds (fact_c ty proper answers types f s op) (operand_value env (operand_c op)))
    operands_hold (Op.Bin bin flags w a b) t = (
      operand_holds w a (number_operand f w a t.ranges.1.of_width t.ranges.1.first t.operands.first),
      operand_holds w b (number_operand f w b t.ranges.1.of_width t.ranges.1.second t.operands.second),
    )
    operands_hold (Op.Icmp pred samesign w a b) t = (
      operand_holds w a (number_operand f w a t.ranges.of_width t.ranges.first t.operands.first),
      operand_holds w b (number_operand f w b t.ranges.of_width t.ranges.second t.operands.second),
    )
    operands_hold (Op.Select w c a b) t = (
      operand_holds w a (number_operand f w a t.ranges.1.of_width t.ranges.1.first t.operands.1.first),
      operand_holds w b (number_operand f w b t.ranges.1.of_width t.ranges.1.second t.operands.1.second),
      operand_holds 1 c (bit_operand f c t.ranges.0 t.operands.0),
    )
    operands_hold (Op.Cast cast flags from to a) t = operand_holds from a (number_operand f from a t.ranges.1 t.ranges.2 t.operands.0)
    operands_hold (Op.Freeze w a) t = operand_holds w a (number_operand f w a t.ranges.0 t.ranges.1 t.operands)
    operands_hold (Op.Two fun w a b) t = (
      operand_holds w a (number_operand f w a t.ranges.of_width t.ranges.first t.operands.first),
      operand_holds w b (number_operand f w b t.ranges.of_width t.ranges.second t.operands.second),
    )
    operands_hold (Op.One fun w a strict) t = operand_holds w a (number_operand f w a t.ranges.0 t.ranges.1 t.operands)
    operands_hold (Op.Over over w a b) t = (
      operand_holds w a (number_operand f w a t.ranges.of_width t.ranges.first t.operands.first),
      operand_holds w b (number_operand f w b t.ranges.of_width t.ranges.second t.operands.second),
    )
    operands_hold (Op.Part w pair index) t = pair_holds w pair (written_width w t.ranges.0) t.operands
    operands_hold (Op.Assume c) t = operand_holds 1 c (bit_operand f c t.ranges t.operands)
    operands_hold (Op.Call width place) t = tt

    -- the transfer holds of what the operation gives
    pub transfer_holds : (op : Op) (v : Val) → IsTypedOp f op → is_call op ≡ false → Gives op env (Gave v) → holds (transferred answers op s) v
    transfer_holds op v t no_call gives =
        sound.transfer op (fact_a ty proper answers types f s op) (fact_b ty proper answers types f s op) (fact_c ty proper answers types f s op)
        (operand_value env (operand_a op)) (operand_value env (operand_b op)) (operand_value env (operand_c op)) v
        (is_operation f op no_call t) (operands_typed ty proper answers types f s op facts t) (operands_hold op t) gives

  -- ---- what is told of operands

  module _ (env : Env) (equations : HasTypedEquations f) where
    abbrev pub IsMet : AbstractState V → Type 0
    IsMet s = Met holds ty proper answers types sound f env s

    literal_stays : (s : AbstractState V) (o : Option V) (n : ℕ) → IsMet s → IsSomeAnd o (λ d. holds d (Val.Number n)) → IsSomeAnd (if is_some o then Some s else None) IsMet
    literal_stays s None n met at = absurd at
    literal_stays s (Some d) n met at = met

    literal_holds : (w n : ℕ) → IsWidth w → n < 2 ^ w → holds (answers.literal w n) (Val.Number n)
    literal_holds w n width below = (sound.literal w n (Val.Number n) width below).1 refl

    -- where the operand is the number k, and k is wanted, by comparison with n
    told_met : (x : Operand) (w n k : ℕ) (pred : Pred) (s : AbstractState V) → IsNumberOperand f w x → n < 2 ^ w → IsMet s → operand_value env x ≡ Val.Number k →
        IsTrue (by_order pred equal unsigned_less (signed_less w) k n) → IsSomeAnd (told answers f x w (Want.Compare pred (answers.literal w n)) s) IsMet
    told_met (Operand.Value v) w n k pred s of below met is wanted =
        narrows holds ty proper answers types sound f env equations deepest v.0 w (Want.Compare pred (answers.literal w n)) s (has_type f v (Ty.Int w) of.typed) (types.literal w n of.width below) met
        (record { x = k; is = is; wanted = λ _. (n, literal_holds w n of.width below, wanted) })
    told_met (Operand.Literal bits) w n k pred s of below met is wanted =
        let same : bits ≡ k = cc in
        literal_stays s (answers.compare (answers.literal w bits) pred (answers.literal w n)) bits met
        (sound.compare w bits n (answers.literal w bits) (answers.literal w n) pred (types.literal w bits of.width of.range) (types.literal w n of.width below)
        (literal_holds w bits of.width of.range) (literal_holds w n of.width below) (subst (λ j. IsTrue (by_order pred equal unsigned_less (signed_less w) j n)) (sym same) wanted))
    told_met Operand.Poison w n k pred s of below met is wanted = absurd cc

    pub told_equal_met : (x : Operand) (w n : ℕ) (s : AbstractState V) → IsNumberOperand f w x → n < 2 ^ w → IsMet s → operand_value env x ≡ Val.Number n → IsSomeAnd (told_equal answers f x w n s) IsMet
    told_equal_met x w n s of below met is = told_met x w n n Pred.Eq s of below met is (holds_equal w n)

    pub told_apart_met : (x : Operand) (w n : ℕ) (s : AbstractState V) → IsNumberOperand f w x → n < 2 ^ w → IsMet s → IsOther n (operand_value env x) → IsSomeAnd (told_apart answers f x w n s) IsMet
    told_apart_met x w n s of below met is = told_met x w n is.number Pred.Ne s of below met is.is (holds_apart w is.number n is.other)
