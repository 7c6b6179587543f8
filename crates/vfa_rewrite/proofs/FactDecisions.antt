-- What a true table of facts tells of places, edges and operands is true.
use Rattle.std.proofs.Common.{◌≡◌, ◌<◌, ◌^◌, ℕ, zero, suc, unwrap_or, true, false, Option, Some, None, List, [], ◌∷◌, take, length, is_some, IsTrue, IsSomeAnd, slice_get, refl, sym, ap, ◌∙◌, subst}
use Rattle.std.specs.List.{AllByRecursion}
use Rattle.std.specs.Option.{ForSome}
use Rattle.vfa_ir.specs.declared.operations.Op.{Op}
use Rattle.vfa_ir.specs.declared.operations.Operand.{Operand}
use Rattle.vfa_ir.specs.declared.operations.Ty.{Ty}
use Rattle.vfa_ir.specs.declared.functions.Block.{Block}
use Rattle.vfa_ir.specs.declared.functions.Function.{Function}
use Rattle.vfa_ir.specs.declared.functions.Inst.{Inst}
use Rattle.vfa_ir.specs.Defined.{line_count}
use Rattle.vfa_ir.specs.Printable.{IsPrintable}
use Rattle.vfa_word.specs.Numbers.{IsWidth}
use Rattle.vfa_fact.specs.declared.cell.Parts.{Parts}
use Rattle.vfa_fact.specs.declared.numbers.Numbers.{Numbers}
use Rattle.vfa_fact.specs.Cells.{CellValue, in_option}
use Rattle.vfa_mean.specs.declared.value.Val.{Val}
use Rattle.vfa_mean.specs.Moments.{Place, Into, At, Moment, IsLine, is_call}
use Rattle.vfa_mean.specs.Outcomes.{Edge as ToEdge, exit_of}
use Rattle.vfa_mean.specs.Values.{Env, IsValueOf, operand_value}
use Rattle.vfa_values.specs.Conditions.{IsType, IsOf}
use Rattle.vfa_cond.specs.Conditions.{AreFacts, IsNumberOperand}
use Rattle.vfa_cond.specs.Truth.{IsTrueState}
use Rattle.vfa_cond.proofs.Accepted.{typed_equations}
use Rattle.vfa_cond.proofs.Fitting.{has_type}
use Rattle.vfa_cond.proofs.Truthful.{Met}
use Rattle.vfa_check.specs.Checked.{IsChecked}
use Rattle.vfa_walk.specs.Passes.{followed}
use Rattle.vfa_walk.specs.Leaving.{along_edge, edges_out}
use Rattle.vfa_walk.specs.Stepping.{fact_of, insts_of, before_line}
use Rattle.vfa_walk.specs.Tables.{IsTrueTable}
use Rattle.vfa_walk.specs.TruthLaws.{HasTypedFacts}
use Rattle.vfa_walk.proofs.TruthFacts.{IsTypedInst, insts_are_typed, fact_typed, pair_typed, insts_typed, left_typed}
use Rattle.vfa_walk.proofs.TruthTables.{place_met, edges_are_true}
use Rattle.vfa_walk.proofs.TruthStates.{operand_holds}
use Rattle.vfa_walk.proofs.TruthValues.{values_are_typed}
use Rattle.vfa_xfer.specs.declared.any_fact.AnyFact.{AnyFact}
use Rattle.vfa_xfer.specs.AnyFacts.{HoldsOf, IsAnyFact, fact_type, CellHolds}
use Rattle.vfa_xfer.specs.Constants.{single_in}
use Rattle.vfa_xfer.specs.TransferLaws.{fact_laws}
use Rattle.vfa_xfer.specs.Transfers.{fact_answers}
use Rattle.vfa_rules.specs.declared.change.Change.{Change}
use Rattle.vfa_rules.specs.Order.{Known, changed}
use Rattle.vfa_rewrite.specs.ByFacts.{FactState, FactTable, fact_state, decided_by, decision_of, decision_in, facts_known, change_in, edge_state, findings_of}
use Rattle.vfa_rewrite.specs.Findings.{IsTypedOperand, IsDecisionOf, DecisionHolds, ChangesHold, AreTrue}
use Rattle.vfa_rewrite.proofs.Lines.{call_tells}
use Rattle.vfa_rewrite.proofs.Ranges.{typed_value}

there_is : {A : Type 0} (P : A → Type 0) (o : Option A) → IsSomeAnd o P → is_some o ≡ true
there_is P None h = absurd h
there_is P (Some x) h = refl

-- ---- decisions

-- a cell without numbers holds of poison alone
none_holds : (c : CellValue) (v : Val) → c.numbers ≡ None → CellHolds c v → v ≡ Val.Poison
unfolding in_option
none_holds c (Val.Number x) e h = absurd (let none : IsTrue (in_option c.width None x) = subst (λ o. IsTrue (in_option c.width o x)) e h in cc)
none_holds c Val.Poison e h = refl
none_holds c (Val.Pair x o) e h = absurd h

cell_decides : (c : CellValue) (v : Val) → CellHolds c v → ((x y : ℕ) → single_in c ≡ Some x → CellHolds c (Val.Number y) → y ≡ x) →
    (o : Option Numbers) → c.numbers ≡ o → (s : Option ℕ) → single_in c ≡ s → DecisionHolds (decided_by o s) v
cell_decides c v h only None e s i = none_holds c v e h
cell_decides c v h only (Some n) e None i = tt
cell_decides c Val.Poison h only (Some n) e (Some x) i = tt
cell_decides c (Val.Number y) h only (Some n) e (Some x) i = ap Val.Number (only x y i h)
cell_decides c (Val.Pair y o) h only (Some n) e (Some x) i = absurd h

pub parts_decide : (t : Ty) (p : Parts) (v : Val) → IsOf fact_type IsAnyFact t (record { parts = p }) → HoldsOf (record { parts = p }) v → DecisionHolds (decision_of p) v
parts_decide t (Parts.One c) v of h =
    cell_decides c v h (λ x y e k. fact_laws.sound.single t (record { parts = Parts.One c }) x y of e k) c.numbers refl (single_in c) refl
parts_decide t (Parts.Two c d) v of h = tt

cell_of_type : (w : ℕ) (o : Option Numbers) (s : Option ℕ) → ForSome s (λ x. x < 2 ^ w) → IsDecisionOf (Ty.Int w) (decided_by o s)
cell_of_type w None s h = tt
cell_of_type w (Some n) None h = tt
cell_of_type w (Some n) (Some x) h = h x refl

parts_of_type : (t : Ty) (p : Parts) → IsOf fact_type IsAnyFact t (record { parts = p }) → IsDecisionOf t (decision_of p)
parts_of_type (Ty.Int w) (Parts.One c) of = cell_of_type w c.numbers (single_in c) (fact_laws.typed.single w (record { parts = Parts.One c }) of)
parts_of_type (Ty.Pair w) (Parts.One c) of = absurd (let e = of.typed in cc)
parts_of_type t (Parts.Two c d) of = tt

-- ---- operands

number_operand_of : (f : Function) (w : ℕ) (a : Operand) → IsWidth w → IsTypedOperand f (Ty.Int w) a → IsNumberOperand f w a
number_operand_of f w (Operand.Value n) width typed = record { width = width; range = (typed_value f (Ty.Int w) n typed).below; typed = typed }
number_operand_of f w (Operand.Literal x) width typed = record { width = width; range = typed; typed = tt }
number_operand_of f w Operand.Poison width typed = record { width = width; range = tt; typed = tt }

take_all_of : {A : Type 0} (P : A → Type 0) (n : ℕ) (xs : List A) → AllByRecursion P xs → AllByRecursion P (take n xs)
take_all_of P zero xs h = tt
take_all_of P (suc n) [] h = tt
take_all_of P (suc n) (x ∷ xs) h = (h.0, take_all_of P n xs h.1)

module _ (f : Function) (t : FactTable) (checked : IsChecked f) (printable : IsPrintable f) (facts : HasTypedFacts fact_type IsAnyFact f t) where
  -- ---- facts in states are of their names' types

  abbrev pub OfTypes : FactState → Type 0
  OfTypes s = AreFacts fact_type IsAnyFact f s

  insts_of_types : (b : ℕ) → AllByRecursion (IsTypedInst f) (insts_of f b)
  insts_of_types b = by (slice_get f.blocks b) refl
    where
      by : (o : Option Block) → slice_get f.blocks b ≡ o → AllByRecursion (IsTypedInst f) (elim o [ None ↦ [] | Some block ↦ block.insts ])
      by None e = tt
      by (Some block) e = insts_are_typed f printable checked.formed.typed b block e

  followed_typed : (o : Option FactState) (next : FactState → Option FactState) → ForSome o OfTypes → ((s : FactState) → OfTypes s → ForSome (next s) OfTypes) → ForSome (followed next o) OfTypes
  followed_typed None next h k = λ x e. absurd (cc)
  followed_typed (Some s) next h k = k s (h s refl)

  pub state_typed : (place : Place) → ForSome (fact_state f t place) OfTypes
  state_typed (At b i) = followed_typed (t b) (before_line fact_answers f b i) (facts b)
      (λ s h. insts_typed fact_type IsAnyFact fact_answers fact_laws.typed f (typed_equations f printable checked.formed.typed) (take i (insts_of f b)) s h
      (take_all_of (IsTypedInst f) i (insts_of f b) (insts_of_types b)))
  state_typed (Into (Some p) b) = followed_typed (t p) _ (facts p)
      (λ s h. left_typed fact_type IsAnyFact fact_answers fact_laws.typed f printable checked.formed.typed p b s h)
  state_typed (Into None b) = facts b

  pub operand_typed : (s : FactState) (ty : Ty) (a : Operand) → OfTypes s → IsType ty → IsTypedOperand f ty a → IsOf fact_type IsAnyFact ty (fact_of fact_answers s ty a)
  operand_typed s (Ty.Int w) a h is typed = fact_typed fact_type IsAnyFact fact_answers fact_laws.typed f s w a h (number_operand_of f w a is typed)
  operand_typed s (Ty.Pair w) (Operand.Value n) h is typed = pair_typed fact_type IsAnyFact fact_answers fact_laws.typed f s w n h is typed
  operand_typed s (Ty.Pair w) (Operand.Literal x) h is typed = absurd typed
  operand_typed s (Ty.Pair w) Operand.Poison h is typed = fact_laws.typed.poison (Ty.Pair w) is

  pub decisions_of_type : (place : Place) (ty : Ty) (a : Operand) → IsType ty → IsTypedOperand f ty a → IsDecisionOf ty ((findings_of f t).decision place ty a)
  decisions_of_type place ty a is typed = by (fact_state f t place) (state_typed place)
    where
      by : (o : Option FactState) → ForSome o OfTypes → IsDecisionOf ty (decision_in o ty a)
      by None h = tt
      by (Some s) h = parts_of_type ty (fact_of fact_answers s ty a).parts (operand_typed s ty a (h s refl) is typed)

  -- ---- calls

  call_is_kept : (k : Known) (op : Op) → is_call op ≡ true → changed k op ≡ Change.Keep op
  unfolding changed
  call_is_kept k op e = let c = call_tells op e in subst (λ o. changed k o ≡ Change.Keep o) (sym c.is) refl

  pub calls_are_kept : (b : ℕ) (block : Block) (i : ℕ) (inst : Inst) → IsLine f b block i inst → is_call inst.op ≡ true → (findings_of f t).change b i inst ≡ Change.Keep inst.op
  calls_are_kept b block i inst line call = by (fact_state f t (At b i))
    where
      by : (o : Option FactState) → change_in f o inst ≡ Change.Keep inst.op
      by None = refl
      by (Some s) = call_is_kept (facts_known f s inst) inst.op call

  -- ---- truth

  module _ (is_true : IsTrueTable HoldsOf f t) where
    abbrev pub MetIn : Env → FactState → Type 0
    MetIn env s = Met HoldsOf fact_type IsAnyFact fact_answers fact_laws.typed fact_laws.sound f env s

    pub met_at : (place : Place) (env : Env) → Moment f place env → IsSomeAnd (fact_state f t place) (MetIn env)
    met_at place env moment = place_met HoldsOf fact_type IsAnyFact fact_answers fact_laws.typed fact_laws.sound f checked.once printable checked.formed.typed checked.formed.defined
        t facts is_true checked.formed.phis place env moment

    places_are_met : (b i : ℕ) (env : Env) → Moment f (At b i) env → (findings_of f t).met b i ≡ true
    places_are_met b i env moment = there_is (MetIn env) (fact_state f t (At b i)) (met_at (At b i) env moment)

    edges_are_left : (b : ℕ) (block : Block) (env : Env) (k target : ℕ) → Moment f (At b (length block.insts)) env → slice_get f.blocks b ≡ Some block →
        exit_of block.term env ≡ ToEdge k target → (findings_of f t).left b k ≡ true
    edges_are_left b block env k target moment there exit =
        let taken = edges_are_true HoldsOf fact_type IsAnyFact fact_answers fact_laws.typed fact_laws.sound f checked.once printable checked.formed.typed checked.formed.defined
        t facts is_true b block env k target there moment exit in
        let count : line_count f b ≡ length block.insts = ap (λ o. elim o [ None ↦ 0 | Some block ↦ length block.insts ]) there in
        ap (λ n. is_some (edge_state f (fact_state f t (At b n)) (slice_get (edges_out f b) k))) count
        ∙ ap (λ e. is_some (edge_state f (fact_state f t (At b (length block.insts))) e)) taken.stands
        ∙ there_is (λ s. IsTrueState HoldsOf f s env) (followed (along_edge fact_answers f taken.taken) (fact_state f t (At b (length block.insts)))) taken.is_true

    -- ---- operands

    name_holds : (o : Option AnyFact) (ty : Ty) (v : Val) → IsType ty → IsValueOf ty v → ForSome o (λ d. HoldsOf d v) → HoldsOf (unwrap_or o (fact_answers.any ty false)) v
    name_holds None ty v is fits h = fact_laws.sound.any ty false v is fits (λ e. refl)
    name_holds (Some d) ty v is fits h = h d refl

    pub fact_holds : (env : Env) (s : FactState) (place : Place) (ty : Ty) (a : Operand) → Moment f place env → MetIn env s → IsType ty → IsTypedOperand f ty a →
        HoldsOf (fact_of fact_answers s ty a) (operand_value env a)
    fact_holds env s place (Ty.Int w) a moment met is typed =
        operand_holds HoldsOf fact_type IsAnyFact fact_answers fact_laws.typed fact_laws.sound f env s (values_are_typed f printable checked.formed.typed place env moment) met.facts met.truth w a
        (number_operand_of f w a is typed)
    fact_holds env s place (Ty.Pair w) (Operand.Value n) moment met is typed =
        name_holds (s.fact n.0) (Ty.Pair w) (env n.0) is
        (subst (λ ty. IsValueOf ty (env n.0)) (has_type f n (Ty.Pair w) typed) (values_are_typed f printable checked.formed.typed place env moment n.0)) (met.truth.facts n.0)
    fact_holds env s place (Ty.Pair w) (Operand.Literal x) moment met is typed = absurd typed
    fact_holds env s place (Ty.Pair w) Operand.Poison moment met is typed = fact_laws.sound.poison (Ty.Pair w) is

    decisions_hold : (place : Place) (ty : Ty) (a : Operand) (env : Env) → IsType ty → IsTypedOperand f ty a → Moment f place env →
        DecisionHolds ((findings_of f t).decision place ty a) (operand_value env a)
    decisions_hold place ty a env is typed moment = by (fact_state f t place) (met_at place env moment)
      where
        by : (o : Option FactState) → IsSomeAnd o (MetIn env) → DecisionHolds (decision_in o ty a) (operand_value env a)
        by None h = absurd h
        by (Some s) met = parts_decide ty (fact_of fact_answers s ty a).parts (operand_value env a) (operand_typed s ty a met.facts is typed) (fact_holds env s place ty a moment met is typed)

    pub are_true : ChangesHold f (findings_of f t) → AreTrue f (findings_of f t)
    are_true changes = record {
      met = places_are_met;
      left = edges_are_left;
      of_type = decisions_of_type;
      decision = decisions_hold;
      change = changes;
      call = calls_are_kept;
    }
