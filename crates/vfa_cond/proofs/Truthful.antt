-- Narrowing keeps truth: where a state is true of some values and the condition is met by them, so is the narrowed state.
use Rattle.std.proofs.Common.{◌≡◌, ◌<◌, ◌+◌, ◌%◌, ◌^◌, ◌≤◌, ℕ, zero, suc, Bool, true, false, ◌&&◌, nat_eq, if◌then◌else◌, Option, Some, None, is_some, IsTrue, IsSomeAnd, bit_and, bit_or, bit_xor, refl, sym, ◌∙◌, ap, subst, eqb-true, eq-eqb, arith, lit<, add_comm}
use Rattle.std.specs.Option.{ForSome}
use Rattle.std.proofs.lemmas.Nat.{and_comm, xor_comm, le_or_r}
use Rattle.vfa_ir.specs.declared.operations.Bin.{Bin}
use Rattle.vfa_ir.specs.declared.operations.Cast.{Cast}
use Rattle.vfa_ir.specs.declared.operations.CastFlags.{CastFlags}
use Rattle.vfa_ir.specs.declared.operations.Flags.{Flags}
use Rattle.vfa_ir.specs.declared.operations.Op.{Op}
use Rattle.vfa_ir.specs.declared.operations.Operand.{Operand}
use Rattle.vfa_ir.specs.declared.operations.Pred.{Pred}
use Rattle.vfa_ir.specs.declared.operations.Ty.{Ty}
use Rattle.vfa_ir.specs.declared.functions.Function.{Function}
use Rattle.vfa_ir.specs.Predicates.{by_order}
use Rattle.vfa_word.specs.declared.arith.Arith.{Arith}
use Rattle.vfa_word.specs.Operations.{equal, unsigned_less, signed_less}
use Rattle.vfa_mean.specs.declared.value.Val.{Val}
use Rattle.vfa_mean.specs.Values.{Env, operand_value}
use Rattle.vfa_mean.specs.Meaning.{Gave, Gives, Allowed, done, chosen}
use Rattle.vfa_mean.specs.Rows.{arithmetic, bitwise_and, bitwise_or, bitwise_xor, compare, bit_of, convert}
use Rattle.vfa_values.specs.Answers.{Answers}
use Rattle.vfa_values.specs.Conditions.{IsOf, IsInteger, width_of}
use Rattle.vfa_values.specs.Laws.{AreTyped, AreSound}
use Rattle.vfa_cond.specs.declared.want.Want.{Want}
use Rattle.vfa_cond.specs.declared.consequence.BesideLiteral.{BesideLiteral}
use Rattle.vfa_cond.specs.declared.consequence.Consequence.{Consequence}
use Rattle.vfa_cond.specs.Conditions.{name_type, IsTypedEquation, HasTypedEquations, IsNumberOperand, AreFacts, FitsConsequence}
use Rattle.vfa_cond.specs.Consequences.{beside_literal, is_literal, equal_bit, from_sum, and_by, of_or, from_not, from_number, of_binary, of_conversion, of_comparison, of_select, consequence_of}
use Rattle.vfa_cond.specs.Equations.{equation}
use Rattle.vfa_cond.specs.Narrowing.{Change, Narrowing, and_then, operand_fact, narrowed_operand, held_with, held, carried_out, live_equation, by_equation, kept_by, narrowed_by, followed, narrowed, Becomes}
use Rattle.vfa_cond.specs.Opposites.{negated, exchanged}
use Rattle.vfa_cond.specs.States.{AbstractState, with_fact}
use Rattle.vfa_cond.specs.Truth.{IsTrueState, HoldsBetween}
use Rattle.vfa_cond.specs.Wants.{IsWanted, IsWantFor, kept}
use Rattle.vfa_cond.proofs.Fitting.{bit_width, when, and_first, and_second, consequence_fits, operand_typed, has_type}
use Rattle.vfa_cond.proofs.Keeping.{with_facts, kept_typed}
use Rattle.vfa_cond.proofs.Rows.{number_in, equal_holds, negated_holds, exchanged_holds, and_one, or_zero, opposite_bit, and_twice, low_bit, unless_number, of_one_number, of_two_number, IsBeside, beside_true, literal_is}

-- a choice that is a fact in either case
either : {A : Type 0} (P : A → Type 0) (b : Bool) (x y : A) → (b ≡ true → P x) → (b ≡ false → P y) → P (if b then x else y)
either P true x y p q = p refl
either P false x y p q = q refl

module _ {V : Type 0} (holds : V → Val → Type 0) (ty : V → Ty) (proper : V → Type 0) (answers : Answers V)
    (types : AreTyped (IsOf ty proper) answers) (sound : AreSound holds (IsOf ty proper) answers) (f : Function) (env : Env) where
  -- the value is a number of the width that is wanted, if it fits
  pub record Wants (w : ℕ) (want : Want V) (value : Val) : Type 0 where
    pub x : ℕ
    pub is : value ≡ Val.Number x
    pub wanted : x < 2 ^ w → IsWanted holds w want x

  -- what is said of operands holds of their values
  abbrev pub Says : Consequence V → Type 0
  Says Consequence.Nothing = Unit {0}
  Says Consequence.Contradiction = ⊥
  Says (Consequence.One x w want) = Wants w want (operand_value env x)
  Says (Consequence.Both x y want) = Wants 1 want (operand_value env x) × Wants 1 want (operand_value env y)
  Says (Consequence.Holds x pred y w) = HoldsBetween pred w (operand_value env x) (operand_value env y)

  -- ---- one operation after another

  wants_bit : (bit x : ℕ) (value : Val) → bit < 2 → value ≡ Val.Number x → (x < 2 → x ≡ bit) → Wants 1 (equal_bit answers bit) value
  wants_bit bit x value small is same = record {
    x = x;
    is = is;
    wanted = λ below. (bit, (sound.literal 1 bit (Val.Number bit) bit_width small).1 refl, equal_holds 1 x bit (same below));
  }

  sum_says : (w n : ℕ) (d : V) (l : Option BesideLiteral) → holds d (Val.Number n) → ForSome l (IsBeside (λ x y. (x + y) % 2 ^ w) env n) → Says (from_sum w d l)
  sum_says w n d None at beside = tt
  sum_says w n d (Some l) at beside =
      let is = beside l refl in
      record { x = is.x; is = is.is; wanted = λ below. subst (λ k. holds d (Val.Number k)) is.gave at }

  and_says : (w n : ℕ) (a b : Operand) (x y : ℕ) (l : Option BesideLiteral) → operand_value env a ≡ Val.Number x → operand_value env b ≡ Val.Number y → n ≡ bit_and x y
      → ForSome l (IsBeside bit_and env n) → Says (and_by answers w a b n l)
  and_says w n a b x y None first second gave beside =
      when Says (nat_eq w 1 && nat_eq n 1) _ _
      (λ h. let one : n ≡ 1 = eqb-true n 1 (and_second (nat_eq w 1) (nat_eq n 1) h) in (
        wants_bit 1 x _ (lit< tt) first (λ below. and_one x y below (sym gave ∙ one)),
        wants_bit 1 y _ (lit< tt) second (λ below. and_one y x below (and_comm y x ∙ (sym gave ∙ one))),
      ))
      tt
  and_says w n a b x y (Some l) first second gave beside =
      let is = beside l refl in
      let twice : bit_and n l.literal ≡ n = and_twice is.x l.literal n is.gave in
      either Says (nat_eq (bit_and n l.literal) n) _ _
      (λ h. record { x = is.x; is = is.is; wanted = λ below. sym is.gave ∙ sym twice })
      (λ h. let t : true ≡ false = sym (eq-eqb _ _ twice) ∙ h in cc)

  or_says : (w n : ℕ) (a b : Operand) (x y : ℕ) → operand_value env a ≡ Val.Number x → operand_value env b ≡ Val.Number y → n ≡ bit_or x y → Says (of_or answers w a b n)
  or_says w n a b x y first second gave =
      when Says (nat_eq w 1 && nat_eq n 0) _ _
      (λ h. let none : n ≡ 0 = eqb-true n 0 (and_second (nat_eq w 1) (nat_eq n 0) h) in (
        wants_bit 0 x _ (lit< tt) first (λ below. or_zero x y (sym gave ∙ none)),
        wants_bit 0 y _ (lit< tt) second (λ below. let le : y ≤ bit_or x y = le_or_r x y in omega (arith, gave, none)),
      ))
      tt

  xor_says : (w n : ℕ) (l : Option BesideLiteral) → ForSome l (IsBeside bit_xor env n) → Says (from_not answers w n l)
  xor_says w n None beside = tt
  xor_says w n (Some l) beside =
      let is = beside l refl in
      when Says (nat_eq w 1 && nat_eq l.literal 1) _ _
      (λ h. let one : w ≡ 1 = eqb-true w 1 (and_first (nat_eq w 1) (nat_eq l.literal 1) h) in
      let unit : l.literal ≡ 1 = eqb-true l.literal 1 (and_second (nat_eq w 1) (nat_eq l.literal 1) h) in
      let opposite : (if nat_eq n 0 then 1 else 0) < 2 = when (λ k. k < 2) (nat_eq n 0) 1 0 (λ _. lit< tt) (lit< tt) in
      subst (λ k. Wants k (equal_bit answers (if nat_eq n 0 then 1 else 0)) (operand_value env l.other)) (sym one)
      (wants_bit _ is.x _ opposite is.is (λ below. opposite_bit is.x n below (is.gave ∙ ap (bit_xor is.x) unit))))
      tt

  -- the one number that the value can be is the one that it is
  number_says : (t : Ty) (row : ℕ → Consequence V) (d : V) (n : ℕ) → IsOf ty proper t d → holds d (Val.Number n) → Says (row n) → Says (from_number row (answers.single d))
  number_says t row d n of at says = go (answers.single d) (λ v e. sound.single t d v n of e at)
    where
      go : (x : Option ℕ) → ((v : ℕ) → x ≡ Some v → n ≡ v) → Says (from_number row x)
      go None same = tt
      go (Some v) same = subst (λ k. Says (row k)) (same v refl) says

  binary_says : (bin : Bin) (flags : Flags) (w n : ℕ) (a b : Operand) (d : V) → IsOf ty proper (Ty.Int w) d → holds d (Val.Number n)
      → Gives (Op.Bin bin flags w a b) env (Gave (Val.Number n)) → Says (of_binary answers bin w a b d)
  unfolding done
  binary_says Bin.Add flags w n a b d of at gives =
      let two = of_two_number (arithmetic Arith.Add flags w) _ _ n gives in
      let sum : n ≡ (two.x + two.y) % 2 ^ w = unless_number _ _ n two.gave in
      sum_says w n d (beside_literal a b) at (beside_true (λ x y. (x + y) % 2 ^ w) (λ x y. ap (λ k. k % 2 ^ w) (add_comm x y)) env a b two.x two.y n two.first two.second sum)
  binary_says Bin.And flags w n a b d of at gives =
      let two = of_two_number bitwise_and _ _ n gives in
      let both : n ≡ bit_and two.x two.y = unless_number false _ n two.gave in
      number_says (Ty.Int w) _ d n of at
      (and_says w n a b two.x two.y (beside_literal a b) two.first two.second both (beside_true bit_and and_comm env a b two.x two.y n two.first two.second both))
  binary_says Bin.Or flags w n a b d of at gives =
      let two = of_two_number (bitwise_or flags) _ _ n gives in
      let both : n ≡ bit_or two.x two.y = unless_number _ _ n two.gave in
      number_says (Ty.Int w) _ d n of at (or_says w n a b two.x two.y two.first two.second both)
  binary_says Bin.Xor flags w n a b d of at gives =
      let two = of_two_number bitwise_xor _ _ n gives in
      let both : n ≡ bit_xor two.x two.y = unless_number false _ n two.gave in
      number_says (Ty.Int w) _ d n of at
      (xor_says w n (beside_literal a b) (beside_true bit_xor xor_comm env a b two.x two.y n two.first two.second both))
  binary_says Bin.Sub flags w n a b d of at gives = tt
  binary_says Bin.Mul flags w n a b d of at gives = tt
  binary_says Bin.Shl flags w n a b d of at gives = tt
  binary_says Bin.Udiv flags w n a b d of at gives = tt
  binary_says Bin.Sdiv flags w n a b d of at gives = tt
  binary_says Bin.Lshr flags w n a b d of at gives = tt
  binary_says Bin.Ashr flags w n a b d of at gives = tt
  binary_says Bin.Urem flags w n a b d of at gives = tt
  binary_says Bin.Srem flags w n a b d of at gives = tt

  conversion_says : (cast : Cast) (flags : CastFlags) (from to n : ℕ) (a : Operand) → Gives (Op.Cast cast flags from to a) env (Gave (Val.Number n)) → Says (of_conversion cast from to a n)
  unfolding done
  conversion_says Cast.Zext flags from to n a gives = tt
  conversion_says Cast.Sext flags from to n a gives = tt
  conversion_says Cast.Trunc flags from to n a gives =
      let one = of_one_number (convert Cast.Trunc flags from to) _ n gives in
      let low : n ≡ one.x % 2 ^ to = unless_number _ _ n one.gave in
      when Says (nat_eq to 1) _ _
      (λ h. let bit : to ≡ 1 = eqb-true to 1 h in
      record { x = one.x; is = one.is; wanted = λ below. low_bit one.x n (subst (λ k. n ≡ one.x % 2 ^ k) bit low) })
      tt

  -- a comparison gave 1 where the predicate holds, and 0 where its opposite does
  comparison_says : (pred : Pred) (samesign : Bool) (w n : ℕ) (a b : Operand) → Gives (Op.Icmp pred samesign w a b) env (Gave (Val.Number n)) → Says (of_comparison pred w a b n)
  unfolding done
  comparison_says pred samesign w n a b gives =
      let two = of_two_number (compare pred samesign w) _ _ n gives in
      let bit : n ≡ bit_of (by_order pred equal unsigned_less (signed_less w) two.x two.y) = unless_number _ _ n two.gave in
      record { first = two.x; second = two.y; first_is = two.first; second_is = two.second; holds = chosen_holds two.x two.y (by_order pred equal unsigned_less (signed_less w) two.x two.y) refl bit }
    where
      chosen_holds : (x y : ℕ) (t : Bool) → by_order pred equal unsigned_less (signed_less w) x y ≡ t → n ≡ bit_of t
          → IsTrue (by_order (if nat_eq n 0 then negated pred else pred) equal unsigned_less (signed_less w) x y)
      chosen_holds x y true e bit = subst (λ k. IsTrue (by_order (if nat_eq k 0 then negated pred else pred) equal unsigned_less (signed_less w) x y)) (sym bit) e
      chosen_holds x y false e bit =
          subst (λ k. IsTrue (by_order (if nat_eq k 0 then negated pred else pred) equal unsigned_less (signed_less w) x y)) (sym bit) (negated_holds pred equal unsigned_less (signed_less w) x y e)

  -- a select gave the chosen number
  record Chose (c a b : Val) (n : ℕ) : Type 0 where
    x : ℕ
    is : c ≡ Val.Number x
    gave : Val.Number n ≡ (if nat_eq x 0 then b else a)

  chose : (c a b : Val) (n : ℕ) → Allowed (chosen c a b) (Gave (Val.Number n)) → Chose c a b n
  chose (Val.Number x) a b n e = record { x = x; is = refl; gave = given e }
    where
      given : Gave (Val.Number n) ≡ Gave (if nat_eq x 0 then b else a) → Val.Number n ≡ (if nat_eq x 0 then b else a)
      given e = cc
  chose Val.Poison a b n e = absurd (let f : Gave (Val.Number n) ≡ Gave Val.Poison = e in cc)
  chose (Val.Pair x o) a b n e = absurd (let f : Gave (Val.Number n) ≡ Gave Val.Poison = e in cc)

  one_or_more : (x : ℕ) → (x ≡ 0 → ⊥) → x < 2 → x ≡ 1
  one_or_more x some below = omega arith

  both_set : (x : ℕ) (a b : Val) (t : Bool) → nat_eq x 0 ≡ t → b ≡ Val.Number 0 → Val.Number 1 ≡ (if t then b else a) → (x ≡ 0 → ⊥) × (a ≡ Val.Number 1)
  both_set x a b true t none e = absurd (let f : Val.Number 1 ≡ Val.Number 0 = e ∙ none in let g : 1 ≡ 0 = ap number_in f in omega arith)
  both_set x a b false t none e = ((λ zero_is. let f : true ≡ false = sym (eq-eqb x 0 zero_is) ∙ t in cc), sym e)

  both_clear : (x : ℕ) (a b : Val) (t : Bool) → nat_eq x 0 ≡ t → a ≡ Val.Number 1 → Val.Number 0 ≡ (if t then b else a) → (x ≡ 0) × (b ≡ Val.Number 0)
  both_clear x a b true t one e = (eqb-true x 0 t, sym e)
  both_clear x a b false t one e = absurd (let f : Val.Number 0 ≡ Val.Number 1 = e ∙ one in let g : 0 ≡ 1 = ap number_in f in omega arith)

  select_says : (w n : ℕ) (c a b : Operand) → Gives (Op.Select w c a b) env (Gave (Val.Number n)) → Says (of_select answers w c a b n)
  unfolding done
  select_says w n c a b gives =
      let was = chose (operand_value env c) (operand_value env a) (operand_value env b) n gives in
      when Says (nat_eq w 1) _ _
      (λ _. when Says (nat_eq n 1 && is_literal 0 b) _ _
      (λ h. let one : n ≡ 1 = eqb-true n 1 (and_first (nat_eq n 1) (is_literal 0 b) h) in
      let clear : operand_value env b ≡ Val.Number 0 = ap (operand_value env) (literal_is 0 b (and_second (nat_eq n 1) (is_literal 0 b) h)) in
      let both = both_set was.x (operand_value env a) (operand_value env b) (nat_eq was.x 0) refl clear (subst (λ k. Val.Number k ≡ (if nat_eq was.x 0 then operand_value env b else operand_value env a)) one was.gave) in
      (wants_bit 1 was.x _ (lit< tt) was.is (one_or_more was.x both.0), wants_bit 1 1 _ (lit< tt) both.1 (λ _. refl)))
      (when Says (nat_eq n 0 && is_literal 1 a) _ _
      (λ h. let none : n ≡ 0 = eqb-true n 0 (and_first (nat_eq n 0) (is_literal 1 a) h) in
      let set : operand_value env a ≡ Val.Number 1 = ap (operand_value env) (literal_is 1 a (and_second (nat_eq n 0) (is_literal 1 a) h)) in
      let both = both_clear was.x (operand_value env a) (operand_value env b) (nat_eq was.x 0) refl set (subst (λ k. Val.Number k ≡ (if nat_eq was.x 0 then operand_value env b else operand_value env a)) none was.gave) in
      (wants_bit 0 was.x _ (lit< tt) was.is (λ _. both.0), wants_bit 0 0 _ (lit< tt) both.1 (λ _. refl)))
      tt))
      tt

  -- what a fact says of the operands holds of their values, where the operation gave the number of which the fact holds
  says : (v : ℕ) (op : Op) (d : V) (n : ℕ) → IsTypedEquation f v op → IsOf ty proper (name_type f v) d → holds d (Val.Number n) → Gives op env (Gave (Val.Number n)) → Says (consequence_of answers op d)
  says v (Op.Bin bin flags w a b) d n eq of at gives = binary_says bin flags w n a b d (subst (λ t. IsOf ty proper t d) eq.result of) at gives
  says v (Op.Icmp pred samesign w a b) d n eq of at gives = number_says (name_type f v) _ d n of at (comparison_says pred samesign w n a b gives)
  says v (Op.Select w c a b) d n eq of at gives = number_says (name_type f v) _ d n of at (select_says w n c a b gives)
  says v (Op.Cast cast flags from to a) d n eq of at gives = number_says (name_type f v) _ d n of at (conversion_says cast flags from to n a gives)
  says v (Op.Freeze w a) d n eq of at gives = tt
  says v (Op.Two fun w a b) d n eq of at gives = tt
  says v (Op.One fun w a strict) d n eq of at gives = tt
  says v (Op.Over over w a b) d n eq of at gives = tt
  says v (Op.Part w pair index) d n eq of at gives = tt
  says v (Op.Assume c) d n eq of at gives = tt
  says v (Op.Call width call) d n eq of at gives = tt

  -- ---- restriction

  -- what is kept of a value holds of each wanted number that it holds of
  kept_holds : (w x : ℕ) (d : V) (want : Want V) → IsOf ty proper (Ty.Int w) d → IsWantFor ty proper (Ty.Int w) want → holds d (Val.Number x) → IsWanted holds w want x
      → IsSomeAnd (kept answers d want) (λ d'. holds d' (Val.Number x))
  kept_holds w x d (Want.Compare pred e) of is at wanted = sound.compare w x wanted.0 d e pred of is at wanted.1 wanted.2
  kept_holds w x d (Want.Bits mask value) of is at wanted = sound.with_bits w x mask value d of is.0 is.1 at wanted
  kept_holds w x d (Want.Moved sums c) of is at wanted = sound.moved_from w x c d sums of is.0 is.1 at wanted

  -- the state is true of the values, and its facts are of their names' types
  pub record Met (s : AbstractState V) : Type 0 where
    pub truth : IsTrueState holds f s env
    pub facts : AreFacts ty proper f s

  met_fact : (s : AbstractState V) (v u : ℕ) (d : V) (b : Bool) → nat_eq u v ≡ b → Met s → holds d (env v) → ForSome (if b then Some d else s.fact u) (λ x. holds x (env u))
  met_fact s v u d true t met at = λ x e. let same : d ≡ x = cc in subst (λ y. holds y (env u)) same (subst (λ k. holds d (env k)) (sym (eqb-true u v t)) at)
  met_fact s v u d false t met at = met.truth.facts u

  with_met : (s : AbstractState V) (v : ℕ) (d : V) → Met s → IsOf ty proper (name_type f v) d → holds d (env v) → Met (with_fact s v (Some d))
  with_met s v d met of at = record {
    truth = record { facts = λ u. met_fact s v u d (nat_eq u v) refl met at; equations = met.truth.equations };
    facts = with_facts ty proper f s v d met.facts of;
  }

  -- a new fact of a name, and what follows from it
  abbrev Follows : (ℕ → V → Change V) → Type 0
  Follows follow = (v n : ℕ) (d : V) (s : AbstractState V) → Met s → IsOf ty proper (name_type f v) d → holds d (env v) → env v ≡ Val.Number n → IsSomeAnd (follow v d s) Met

  -- a name that is a wanted number is narrowed
  abbrev pub Narrows : Narrowing V → Type 0
  Narrows narrow = (v w : ℕ) (want : Want V) (s : AbstractState V) → name_type f v ≡ Ty.Int w → IsWantFor ty proper (Ty.Int w) want → Met s → Wants w want (env v) → IsSomeAnd (narrow v want s) Met

  kept_met : (follow : ℕ → V → Change V) → Follows follow → (v w x : ℕ) (s : AbstractState V) (o : Option V) → name_type f v ≡ Ty.Int w → Met s → env v ≡ Val.Number x
      → ForSome o (IsOf ty proper (Ty.Int w)) → IsSomeAnd o (λ d. holds d (Val.Number x)) → IsSomeAnd (kept_by (follow v) v o s) Met
  kept_met follow follows v w x s None name met is of at = absurd at
  kept_met follow follows v w x s (Some d) name met is of at =
      let typed : IsOf ty proper (name_type f v) d = subst (λ t. IsOf ty proper t d) (sym name) (of d refl) in
      let here : holds d (env v) = subst (holds d) (sym is) at in
      follows v x d (with_fact s v (Some d)) (with_met s v d met typed here) typed here is

  narrowed_met : (follow : ℕ → V → Change V) → Follows follow → (v w : ℕ) (want : Want V) (s : AbstractState V) (o : Option V) → s.fact v ≡ o → name_type f v ≡ Ty.Int w
      → IsWantFor ty proper (Ty.Int w) want → Met s → Wants w want (env v) → IsSomeAnd (narrowed_by answers (follow v) v want o s) Met
  narrowed_met follow follows v w want s None fact name for met wants = met
  narrowed_met follow follows v w want s (Some d) fact name for met wants =
      let of : IsOf ty proper (Ty.Int w) d = subst (λ t. IsOf ty proper t d) name (met.facts v d fact) in
      let at : holds d (Val.Number wants.x) = subst (holds d) wants.is (met.truth.facts v d fact) in
      let fits : wants.x < 2 ^ w = sound.within (Ty.Int w) d (Val.Number wants.x) of at in
      kept_met follow follows v w wants.x s (kept answers d want) name met wants.is
      (kept_typed ty proper f answers types (Ty.Int w) d want tt of for)
      (kept_holds w wants.x d want of for at (wants.wanted fits))

  narrows_by : (follow : ℕ → V → Change V) → Follows follow → Narrows (λ v want s. narrowed_by answers (follow v) v want (s.fact v) s)
  narrows_by follow follows v w want s name for met wants = narrowed_met follow follows v w want s (s.fact v) refl name for met wants

  -- ---- operands

  literal_met : (w bits : ℕ) (want : Want V) (s : AbstractState V) (o : Option V) → Met s → IsSomeAnd o (λ d. holds d (Val.Number bits)) → IsSomeAnd (if is_some o then Some s else None) Met
  literal_met w bits want s None met at = absurd at
  literal_met w bits want s (Some d) met at = met

  operand_met : (narrow : Narrowing V) → Narrows narrow → (x : Operand) (w : ℕ) (want : Want V) (s : AbstractState V) → IsNumberOperand f w x → IsWantFor ty proper (Ty.Int w) want
      → Met s → Wants w want (operand_value env x) → IsSomeAnd (narrowed_operand answers narrow x w want s) Met
  operand_met narrow narrows (Operand.Value v) w want s of for met wants = narrows v.0 w want s (has_type f v (Ty.Int w) of.typed) for met wants
  operand_met narrow narrows (Operand.Literal bits) w want s of for met wants =
      let same : wants.x ≡ bits = sym (ap number_in wants.is) in
      let wanted : IsWanted holds w want bits = subst (IsWanted holds w want) same (wants.wanted (subst (λ k. k < 2 ^ w) (sym same) of.range)) in
      let at : holds (answers.literal w bits) (Val.Number bits) = (sound.literal w bits (Val.Number bits) of.width of.range).1 refl in
      literal_met w bits want s _ met (kept_holds w bits (answers.literal w bits) want (types.literal w bits of.width of.range) for at wanted)
  operand_met narrow narrows Operand.Poison w want s of for met wants = absurd (let e : Val.Poison ≡ Val.Number wants.x = wants.is in cc)

  then_met : (r : Option (AbstractState V)) (next : Change V) → IsSomeAnd r Met → ((s : AbstractState V) → Met s → IsSomeAnd (next s) Met) → IsSomeAnd (and_then r next) Met
  then_met None next met after = absurd met
  then_met (Some s) next met after = after s met

  operand_holds : (w : ℕ) (s : AbstractState V) (x : Operand) → IsNumberOperand f w x → Met s → ForSome (operand_fact answers w s x) (λ d. holds d (operand_value env x))
  operand_holds w s (Operand.Value v) of met = met.truth.facts v.0
  operand_holds w s (Operand.Literal bits) of met = λ d e. let same : answers.literal w bits ≡ d = cc in
      subst (λ y. holds y (Val.Number bits)) same ((sound.literal w bits (Val.Number bits) of.width of.range).1 refl)
  operand_holds w s Operand.Poison of met = λ d e. let same : answers.poison (Ty.Int w) ≡ d = cc in
      subst (λ y. holds y Val.Poison) same (sound.poison (Ty.Int w) of.width)

  -- ---- what a fact says is done

  held_with_met : (narrow : Narrowing V) → Narrows narrow → (x : Operand) (pred : Pred) (y : Operand) (w : ℕ) (s : AbstractState V) (X Y : Option V)
      → IsNumberOperand f w x → IsNumberOperand f w y → ForSome X (IsOf ty proper (Ty.Int w)) → ForSome Y (IsOf ty proper (Ty.Int w))
      → ForSome X (λ d. holds d (operand_value env x)) → ForSome Y (λ d. holds d (operand_value env y))
      → Met s → HoldsBetween pred w (operand_value env x) (operand_value env y) → IsSomeAnd (held_with answers narrow x pred y w X Y s) Met
  held_with_met narrow narrows x pred y w s None Y of of' typed typed' at at' met between = met
  held_with_met narrow narrows x pred y w s (Some d) None of of' typed typed' at at' met between = met
  held_with_met narrow narrows x pred y w s (Some d) (Some e) of of' typed typed' at at' met between =
      then_met _ _
      (operand_met narrow narrows x w (Want.Compare pred e) s of (typed' e refl) met
      (record { x = between.first; is = between.first_is; wanted = λ _. (between.second, subst (holds e) between.second_is (at' e refl), between.holds) }))
      (λ s' met'. operand_met narrow narrows y w (Want.Compare (exchanged pred) d) s' of' (typed d refl) met'
      (record { x = between.second; is = between.second_is; wanted = λ _. (between.first, subst (holds d) between.first_is (at d refl), exchanged_holds pred w between.first between.second ∙ between.holds) }))

  pub held_met : (narrow : Narrowing V) → Narrows narrow → (x : Operand) (pred : Pred) (y : Operand) (w : ℕ) (s : AbstractState V)
      → IsNumberOperand f w x → IsNumberOperand f w y → Met s → HoldsBetween pred w (operand_value env x) (operand_value env y) → IsSomeAnd (held answers narrow x pred y w s) Met
  held_met narrow narrows x pred y w s of of' met between =
      held_with_met narrow narrows x pred y w s (operand_fact answers w s x) (operand_fact answers w s y) of of'
      (operand_typed ty proper answers types f w s x met.facts of) (operand_typed ty proper answers types f w s y met.facts of')
      (operand_holds w s x of met) (operand_holds w s y of' met) met between

  carried_met : (narrow : Narrowing V) → Narrows narrow → (k : Consequence V) (s : AbstractState V) → FitsConsequence ty proper f k → Met s → Says k → IsSomeAnd (carried_out answers narrow k s) Met
  carried_met narrow narrows Consequence.Nothing s fits met says = met
  carried_met narrow narrows Consequence.Contradiction s fits met says = absurd says
  carried_met narrow narrows (Consequence.One x w want) s fits met says = operand_met narrow narrows x w want s fits.0 fits.1 met says
  carried_met narrow narrows (Consequence.Both x y want) s fits met says =
      then_met _ _ (operand_met narrow narrows x 1 want s fits.0 fits.2 met says.0) (λ s' met'. operand_met narrow narrows y 1 want s' fits.1 fits.2 met' says.1)
  carried_met narrow narrows (Consequence.Holds x pred y w) s fits met says = held_met narrow narrows x pred y w s fits.0 fits.1 met says

  module _ (typed : HasTypedEquations f) where
    equation_met : (narrow : Narrowing V) → Narrows narrow → (v n : ℕ) (d : V) (s : AbstractState V) (o : Option Op)
        → ((op : Op) → o ≡ Some op → IsTypedEquation f v op × Gives op env (Gave (env v)))
        → Met s → IsOf ty proper (name_type f v) d → holds d (env v) → env v ≡ Val.Number n → IsSomeAnd (by_equation answers narrow d o s) Met
    equation_met narrow narrows v n d s None given met of at is = met
    equation_met narrow narrows v n d s (Some op) given met of at is =
        let eq = given op refl in
        carried_met narrow narrows (consequence_of answers op d) s (consequence_fits ty proper answers types f v op d eq.0 of) met
        (says v op d n eq.0 of (subst (holds d) is at) (subst (λ x. Gives op env (Gave x)) is eq.1))

    live_given : (v : ℕ) (s : AbstractState V) (b : Bool) → s.live v ≡ b → Met s → (op : Op) → (if b then equation f v else None) ≡ Some op → IsTypedEquation f v op × Gives op env (Gave (env v))
    live_given v s true live met op e = (typed v op e, met.truth.equations v live op e)
    live_given v s false live met op e = absurd cc

    followed_met : (left : ℕ) → Follows (followed answers f left)
    unfolding followed
    followed_met zero v n d s met of at is = met
    followed_met (suc left) v n d s met of at is =
        equation_met _ (narrows_by (followed answers f left) (followed_met left)) v n d s (live_equation f s v) (live_given v s (s.live v) refl met) met of at is

    -- narrowing through any number of equations
    pub narrows : (left : ℕ) → Narrows (narrowed answers f left)
    narrows left = narrows_by (followed answers f left) (followed_met left)

-- what the state becomes is met where the defined one is
pub becomes_met : {V : Type 0} (P : AbstractState V → Type 0) (r : Option (AbstractState V)) (answer : Bool) (new : AbstractState V) → Becomes r answer new → IsSomeAnd r P → IsTrue answer × P new
becomes_met P None answer new b met = absurd met
becomes_met P (Some s) answer new b met = (b.0, subst P (sym b.1) met)

pub integer_type : (t : Ty) → IsInteger t → t ≡ Ty.Int (width_of t)
integer_type (Ty.Int w) is = refl
integer_type (Ty.Pair w) is = absurd is
