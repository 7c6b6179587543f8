-- Facts are of the types of their names, in each state of a pass: instructions, edges, phis, joins and widenings keep it.
use Rattle.std.proofs.Common.{◌≡◌, ◌<◌, ◌≤◌, ◌^◌, ℕ, zero, suc, Bool, true, false, min, nat_eq, if◌then◌else◌, Option, Some, None, List, [], ◌∷◌, All, slice_get, take, unwrap_or, refl, sym, subst, arith, eqb-true, lit<}
use Rattle.std.specs.Option.{ForSome}
use Rattle.std.specs.List.{AllByRecursion}
use Rattle.std.proofs.lemmas.List.Elements.{All-head, All-tail}
use Rattle.std.proofs.lemmas.Nat.{pow_pos}
use Rattle.vfa_ir.specs.declared.operations.BlockId.{BlockId}
use Rattle.vfa_ir.specs.declared.operations.Op.{Op}
use Rattle.vfa_ir.specs.declared.operations.Operand.{Operand}
use Rattle.vfa_ir.specs.declared.operations.Pred.{Pred}
use Rattle.vfa_ir.specs.declared.operations.Ty.{Ty}
use Rattle.vfa_ir.specs.declared.operations.ValueId.{ValueId}
use Rattle.vfa_ir.specs.declared.functions.Block.{Block}
use Rattle.vfa_ir.specs.declared.functions.Function.{Function}
use Rattle.vfa_ir.specs.declared.functions.Inst.{Inst}
use Rattle.vfa_ir.specs.declared.functions.Param.{Param}
use Rattle.vfa_ir.specs.declared.functions.Phi.{Phi}
use Rattle.vfa_ir.specs.declared.functions.Term.{Term}
use Rattle.vfa_ir.specs.Printable.{IsPrintable, PrintablePhi, PrintableBlock, PrintableTerm, IsIntegerType, IsBlock, op_type}
use Rattle.vfa_ir.specs.Grammar.{FitsResultType}
use Rattle.vfa_ir.specs.Typed.{Typed, TypedBlock, TypedPhi, TypedTerm, HasType}
use Rattle.vfa_word.specs.Numbers.{IsWidth}
use Rattle.vfa_cfg.specs.declared.listing.Edge.{Edge}
use Rattle.vfa_cfg.specs.declared.listing.Way.{Way}
use Rattle.vfa_mean.specs.Meaning.{operand_a, operand_b, operand_c}
use Rattle.vfa_mean.specs.Moments.{is_call}
use Rattle.vfa_mean.specs.Outcomes.{type_of, has_noundef, entry_from}
use Rattle.vfa_values.specs.Answers.{Answers}
use Rattle.vfa_values.specs.Conditions.{IsOf, IsType, width_of, AreLandmarks}
use Rattle.vfa_values.specs.Laws.{AreTyped}
use Rattle.vfa_values.specs.Operands.{EachOperand}
use Rattle.vfa_cond.specs.declared.want.Want.{Want}
use Rattle.vfa_cond.specs.Conditions.{name_type, HasTypedEquations, IsNumberOperand, AreFacts}
use Rattle.vfa_cond.specs.Narrowing.{deepest, narrowed}
use Rattle.vfa_cond.specs.States.{AbstractState, with_live}
use Rattle.vfa_cond.proofs.Accepted.{typed_equations}
use Rattle.vfa_cond.proofs.Fitting.{some_of, none_of, has_type, bit_width}
use Rattle.vfa_cond.proofs.Keeping.{with_facts}
use Rattle.vfa_cond.proofs.NarrowedTypes.{narrowed_keeps, operand_keeps, then_keeps}
use Rattle.vfa_walk.specs.Passes.{merged}
use Rattle.vfa_walk.specs.Landmarks.{landmarks}
use Rattle.vfa_walk.specs.Stepping.{before_line, fact_of, sides_type, third_type, transferred, promises, result_fact, ended, redefined, with_result, is_division, told_equal, told_apart, survived, after_inst, after_insts, before_end}
use Rattle.vfa_walk.specs.Joining.{of_both, joined, widened, kept_names}
use Rattle.vfa_walk.specs.Leaving.{told_no_case, told_case, along_way, along_edge, joined_edges, edges_out, paired, phi_fact, assigned, with_phis, left_to, handed_on}
use Rattle.vfa_walk.specs.Analysis.{Layout, parameter_fact, start_state, last_round, flow_of}
use Rattle.vfa_walk.proofs.TruthKept.{KeepsStates, mapped_is, merged_is, choice_is}
use Rattle.vfa_walk.proofs.TruthLandmarks.{are_landmarks}
use Rattle.vfa_walk.proofs.TruthTypes.{IsTypedOp, each_of, written_width, line_is_typed, is_operation, line_type, phi_types, number_operand, bit_operand, parameters_are_integers, integer_is_type}
use Rattle.vfa_walk.proofs.TruthValues.{phi_operand}

-- an instruction whose operation is typed, and whose result is of its type
pub record IsTypedInst (f : Function) (inst : Inst) : Type 0 where
  pub op : IsTypedOp f inst.op
  pub result : (r : ValueId) → inst.result ≡ Some r → name_type f r.0 ≡ op_type inst.op

pub all_from_gets : {A : Type 0} (P : A → Type 0) (xs : List A) → ((i : ℕ) (x : A) → slice_get xs i ≡ Some x → P x) → AllByRecursion P xs
all_from_gets P [] each = tt
all_from_gets P (x ∷ xs) each = (each 0 x refl, all_from_gets P xs (λ i. each (suc i)))

pub insts_are_typed : (f : Function) → IsPrintable f → Typed f → (b : ℕ) (block : Block) → slice_get f.blocks b ≡ Some block → AllByRecursion (IsTypedInst f) block.insts
insts_are_typed f printable typed b block there = all_from_gets (IsTypedInst f) block.insts (λ i inst stands. record {
  op = line_is_typed f printable typed b i block inst (record { there = there; stands = stands });
  result = λ r e. line_type f printable b i block inst r (record { there = there; stands = stands }) e;
})

pub all_taken : {A : Type 0} (P : A → Type 0) (xs : List A) (i : ℕ) → AllByRecursion P xs → AllByRecursion P (take i xs)
all_taken P [] zero all = tt
all_taken P [] (suc i) all = tt
all_taken P (x ∷ rest) zero all = tt
all_taken P (x ∷ rest) (suc i) all = (all.0, all_taken P rest i all.1)

pub at_least_one : (round : ℕ) → 1 ≤ round → 1 ≤ min round last_round
at_least_one round one = omega (arith, one)

module _ {V : Type 0} (ty : V → Ty) (proper : V → Type 0) (answers : Answers V) (types : AreTyped (IsOf ty proper) answers) (f : Function) where
  abbrev pub Facts : AbstractState V → Type 0
  Facts s = AreFacts ty proper f s

  abbrev pub Of : Ty → V → Type 0
  Of t d = IsOf ty proper t d

  -- ---- operands

  known_typed : (t : Ty) (o : Option V) → IsType t → ForSome o (Of t) → Of t (unwrap_or o (answers.any t false))
  known_typed t None is of = types.any t false is
  known_typed t (Some d) is of = of d refl

  pub fact_typed : (s : AbstractState V) (w : ℕ) (x : Operand) → Facts s → IsNumberOperand f w x → Of (Ty.Int w) (fact_of answers s (Ty.Int w) x)
  fact_typed s w (Operand.Value v) facts of =
      known_typed (Ty.Int w) (s.fact v.0) of.width (λ d e. subst (λ t. Of t d) (has_type f v (Ty.Int w) of.typed) (facts v.0 d e))
  fact_typed s w (Operand.Literal bits) facts of = types.literal w bits of.width of.range
  fact_typed s w Operand.Poison facts of = types.poison (Ty.Int w) of.width

  pub pair_typed : (s : AbstractState V) (w : ℕ) (pair : ValueId) → Facts s → IsWidth w → HasType f (Ty.Pair w) pair → Of (Ty.Pair w) (fact_of answers s (Ty.Pair w) (Operand.Value pair))
  pair_typed s w pair facts width typed =
      known_typed (Ty.Pair w) (s.fact pair.0) width (λ d e. subst (λ t. Of t d) (has_type f pair (Ty.Pair w) typed) (facts pair.0 d e))

  abbrev pub fact_a : AbstractState V → Op → V
  fact_a s op = fact_of answers s (sides_type op) (operand_a op)

  abbrev pub fact_b : AbstractState V → Op → V
  fact_b s op = fact_of answers s (sides_type op) (operand_b op)

  abbrev pub fact_c : AbstractState V → Op → V
  fact_c s op = fact_of answers s (third_type op) (operand_c op)

  pub operands_typed : (s : AbstractState V) (op : Op) → Facts s → IsTypedOp f op → EachOperand op (λ t. Of t (fact_a s op)) (λ t. Of t (fact_b s op)) (λ t. Of t (fact_c s op))
  operands_typed s (Op.Bin bin flags w a b) facts t = (
    fact_typed s w a facts (number_operand f w a t.ranges.1.of_width t.ranges.1.first t.operands.first),
    fact_typed s w b facts (number_operand f w b t.ranges.1.of_width t.ranges.1.second t.operands.second),
  )
  operands_typed s (Op.Icmp pred samesign w a b) facts t = (
    fact_typed s w a facts (number_operand f w a t.ranges.of_width t.ranges.first t.operands.first),
    fact_typed s w b facts (number_operand f w b t.ranges.of_width t.ranges.second t.operands.second),
  )
  operands_typed s (Op.Select w c a b) facts t = (
    fact_typed s w a facts (number_operand f w a t.ranges.1.of_width t.ranges.1.first t.operands.1.first),
    fact_typed s w b facts (number_operand f w b t.ranges.1.of_width t.ranges.1.second t.operands.1.second),
    fact_typed s 1 c facts (bit_operand f c t.ranges.0 t.operands.0),
  )
  operands_typed s (Op.Cast cast flags from to a) facts t = fact_typed s from a facts (number_operand f from a t.ranges.1 t.ranges.2 t.operands.0)
  operands_typed s (Op.Freeze w a) facts t = fact_typed s w a facts (number_operand f w a t.ranges.0 t.ranges.1 t.operands)
  operands_typed s (Op.Two fun w a b) facts t = (
    fact_typed s w a facts (number_operand f w a t.ranges.of_width t.ranges.first t.operands.first),
    fact_typed s w b facts (number_operand f w b t.ranges.of_width t.ranges.second t.operands.second),
  )
  operands_typed s (Op.One fun w a strict) facts t = fact_typed s w a facts (number_operand f w a t.ranges.0 t.ranges.1 t.operands)
  operands_typed s (Op.Over over w a b) facts t = (
    fact_typed s w a facts (number_operand f w a t.ranges.of_width t.ranges.first t.operands.first),
    fact_typed s w b facts (number_operand f w b t.ranges.of_width t.ranges.second t.operands.second),
  )
  operands_typed s (Op.Part w pair index) facts t = pair_typed s w pair facts (written_width w t.ranges.0) t.operands
  operands_typed s (Op.Assume c) facts t = fact_typed s 1 c facts (bit_operand f c t.ranges t.operands)
  operands_typed s (Op.Call width place) facts t = tt

  -- ---- instructions

  pub call_type : (width : Option ℕ) (place : ℕ) → FitsResultType width → IsType (op_type (Op.Call width place))
  call_type None place fits = bit_width
  call_type (Some w) place fits = written_width w fits

  transfer_typed : (s : AbstractState V) (op : Op) → Facts s → IsTypedOp f op → is_call op ≡ false → Of (op_type op) (transferred answers op s)
  transfer_typed s op facts t no_call = types.transfer op (fact_a s op) (fact_b s op) (fact_c s op) (is_operation f op no_call t) (operands_typed s op facts t)

  pub result_typed : (s : AbstractState V) (op : Op) → Facts s → IsTypedOp f op → Of (op_type op) (result_fact answers f op s)
  result_typed s (Op.Bin bin flags w a b) facts t = transfer_typed s (Op.Bin bin flags w a b) facts t refl
  result_typed s (Op.Icmp pred samesign w a b) facts t = transfer_typed s (Op.Icmp pred samesign w a b) facts t refl
  result_typed s (Op.Select w c a b) facts t = transfer_typed s (Op.Select w c a b) facts t refl
  result_typed s (Op.Cast cast flags from to a) facts t = transfer_typed s (Op.Cast cast flags from to a) facts t refl
  result_typed s (Op.Freeze w a) facts t = transfer_typed s (Op.Freeze w a) facts t refl
  result_typed s (Op.Two fun w a b) facts t = transfer_typed s (Op.Two fun w a b) facts t refl
  result_typed s (Op.One fun w a strict) facts t = transfer_typed s (Op.One fun w a strict) facts t refl
  result_typed s (Op.Over over w a b) facts t = transfer_typed s (Op.Over over w a b) facts t refl
  result_typed s (Op.Part w pair index) facts t = transfer_typed s (Op.Part w pair index) facts t refl
  result_typed s (Op.Assume c) facts t = transfer_typed s (Op.Assume c) facts t refl
  result_typed s (Op.Call width place) facts t = types.any (op_type (Op.Call width place)) (promises f place) (call_type width place t.ranges)

  pub redefined_typed : (s : AbstractState V) (v : ℕ) (d : V) → Facts s → Of (name_type f v) d → Facts (redefined f v d s)
  redefined_typed s v d facts of = with_facts ty proper f (ended f v s) v d facts of

  pub with_result_typed : (s : AbstractState V) (op : Op) (result : Option ValueId) → Facts s → IsTypedOp f op → ((r : ValueId) → result ≡ Some r → name_type f r.0 ≡ op_type op) →
      Facts (with_result answers f op result s)
  with_result_typed s op None facts t name = facts
  with_result_typed s op (Some r) facts t name =
      let new : Facts (redefined f r.0 (result_fact answers f op s) s) =
      redefined_typed s r.0 (result_fact answers f op s) facts (subst (λ y. Of y (result_fact answers f op s)) (sym (name r refl)) (result_typed s op facts t)) in
      choice_is Facts (is_call op) (redefined f r.0 (result_fact answers f op s) s) (with_live (redefined f r.0 (result_fact answers f op s) s) r.0 true) new new

  module _ (equations : HasTypedEquations f) where
    pub told_equal_typed : (x : Operand) (w n : ℕ) (s : AbstractState V) → IsNumberOperand f w x → n < 2 ^ w → Facts s → ForSome (told_equal answers f x w n s) Facts
    told_equal_typed x w n s of below facts =
        operand_keeps ty proper answers types f (narrowed answers f deepest) (narrowed_keeps ty proper answers types f equations deepest) x w (Want.Compare Pred.Eq (answers.literal w n)) s of
        (types.literal w n of.width below) facts

    pub told_apart_typed : (x : Operand) (w n : ℕ) (s : AbstractState V) → IsNumberOperand f w x → n < 2 ^ w → Facts s → ForSome (told_apart answers f x w n s) Facts
    told_apart_typed x w n s of below facts =
        operand_keeps ty proper answers types f (narrowed answers f deepest) (narrowed_keeps ty proper answers types f equations deepest) x w (Want.Compare Pred.Ne (answers.literal w n)) s of
        (types.literal w n of.width below) facts

    pub survived_typed : (s : AbstractState V) (op : Op) → Facts s → IsTypedOp f op → ForSome (survived answers f op s) Facts
    survived_typed s (Op.Bin bin flags w a b) facts t =
        choice_is (λ o. ForSome o Facts) (is_division bin) (told_apart answers f b w 0 s) (Some s)
        (told_apart_typed b w 0 s (number_operand f w b t.ranges.1.of_width t.ranges.1.second t.operands.second) (pow_pos w) facts) (some_of Facts s facts)
    survived_typed s (Op.Icmp pred samesign w a b) facts t = some_of Facts s facts
    survived_typed s (Op.Select w c a b) facts t = some_of Facts s facts
    survived_typed s (Op.Cast cast flags from to a) facts t = some_of Facts s facts
    survived_typed s (Op.Freeze w a) facts t = some_of Facts s facts
    survived_typed s (Op.Two fun w a b) facts t = some_of Facts s facts
    survived_typed s (Op.One fun w a strict) facts t = some_of Facts s facts
    survived_typed s (Op.Over over w a b) facts t = some_of Facts s facts
    survived_typed s (Op.Part w pair index) facts t = some_of Facts s facts
    survived_typed s (Op.Assume c) facts t = told_equal_typed c 1 1 s (bit_operand f c t.ranges t.operands) (lit< tt) facts
    survived_typed s (Op.Call width place) facts t = some_of Facts s facts

    pub inst_typed : (s : AbstractState V) (inst : Inst) → Facts s → IsTypedInst f inst → ForSome (after_inst answers f inst s) Facts
    inst_typed s inst facts t =
        mapped_is Facts Facts (with_result answers f inst.op inst.result) (survived answers f inst.op s) (λ u facts'. with_result_typed u inst.op inst.result facts' t.op t.result)
        (survived_typed s inst.op facts t.op)

    pub insts_typed : (insts : List Inst) (s : AbstractState V) → Facts s → AllByRecursion (IsTypedInst f) insts → ForSome (after_insts answers f insts s) Facts
    insts_typed [] s facts all = some_of Facts s facts
    insts_typed (i ∷ rest) s facts all =
        then_keeps ty proper answers types f (after_inst answers f i s) (after_insts answers f rest) (inst_typed s i facts all.0) (λ t facts'. insts_typed rest t facts' all.1)

    -- ---- edges

    no_case_typed : (on : Operand) (w : ℕ) (cases : List (ℕ × BlockId)) (s : AbstractState V) → IsNumberOperand f w on → All (λ c. c.0 < 2 ^ w) cases → Facts s →
        ForSome (told_no_case answers f on w cases s) Facts
    no_case_typed on w [] s of below facts = some_of Facts s facts
    no_case_typed on w (c ∷ rest) s of below facts =
        then_keeps ty proper answers types f (told_apart answers f on w c.0 s) (told_no_case answers f on w rest) (told_apart_typed on w c.0 s of (All-head (λ c. c.0 < 2 ^ w) c rest below) facts)
        (λ t facts'. no_case_typed on w rest t of (All-tail (λ c. c.0 < 2 ^ w) c rest below) facts')

    case_typed : (on : Operand) (w : ℕ) (o : Option (ℕ × BlockId)) (s : AbstractState V) → IsNumberOperand f w on → ForSome o (λ c. c.0 < 2 ^ w) → Facts s → ForSome (told_case answers f on w o s) Facts
    case_typed on w None s of below facts = some_of Facts s facts
    case_typed on w (Some c) s of below facts = told_equal_typed on w c.0 s of (below c refl) facts

    pub way_typed : (term : Term) (way : Way) (s : AbstractState V) → PrintableTerm f term → TypedTerm f term → Facts s → ForSome (along_way answers f term way s) Facts
    way_typed (Term.Ret w a) way s printable typed facts = some_of Facts s facts
    way_typed (Term.Br to) way s printable typed facts = some_of Facts s facts
    way_typed (Term.CondBr c taken fallen) Way.Yes s printable typed facts = told_equal_typed c 1 1 s (bit_operand f c printable.0 typed) (lit< tt) facts
    way_typed (Term.CondBr c taken fallen) Way.No s printable typed facts = told_equal_typed c 1 0 s (bit_operand f c printable.0 typed) (lit< tt) facts
    way_typed (Term.CondBr c taken fallen) Way.Always s printable typed facts = some_of Facts s facts
    way_typed (Term.CondBr c taken fallen) Way.Other s printable typed facts = some_of Facts s facts
    way_typed (Term.CondBr c taken fallen) (Way.Case k) s printable typed facts = some_of Facts s facts
    way_typed (Term.Switch w on other cases) Way.Other s printable typed facts =
        no_case_typed on w cases s (number_operand f w on printable.0 printable.1 typed.0) (λ k d below. (printable.3 k d below).0) facts
    way_typed (Term.Switch w on other cases) (Way.Case k) s printable typed facts =
        case_typed on w (slice_get cases k) s (number_operand f w on printable.0 printable.1 typed.0)
        (λ c e. (each_of (λ (c : ℕ × BlockId). (c.0 < 2 ^ w) × IsBlock f c.1) cases k c printable.3 e).0) facts
    way_typed (Term.Switch w on other cases) Way.Yes s printable typed facts = some_of Facts s facts
    way_typed (Term.Switch w on other cases) Way.No s printable typed facts = some_of Facts s facts
    way_typed (Term.Switch w on other cases) Way.Always s printable typed facts = some_of Facts s facts
    way_typed Term.Unreachable way s printable typed facts = some_of Facts s facts

  -- ---- joins and widenings

  both_typed : (t : Ty) (cover : V → V → V) (o o' : Option V) → ((a b : V) → Of t a → Of t b → Of t (cover a b)) → ForSome o (Of t) → ForSome o' (Of t) → ForSome (of_both cover o o') (Of t)
  both_typed t cover None o' keeps of of' = none_of (Of t)
  both_typed t cover (Some a) None keeps of of' = none_of (Of t)
  both_typed t cover (Some a) (Some b) keeps of of' = some_of (Of t) (cover a b) (keeps a b (of a refl) (of' b refl))

  pub joined_typed : (s s' : AbstractState V) → Facts s → Facts s' → Facts (joined answers s s')
  joined_typed s s' facts facts' v = both_typed (name_type f v) answers.join (s.fact v) (s'.fact v) (types.join (name_type f v)) (facts v) (facts' v)

  pub landmarks_of : (t : Ty) (d : V) → Of t d → AreLandmarks (width_of t) (landmarks f (width_of t))
  landmarks_of t d of = are_landmarks f (width_of t) (types.width t d of)

  pub widened_typed : (round : ℕ) (s s' : AbstractState V) → 1 ≤ round → Facts s → Facts s' → Facts (widened answers f round s s')
  widened_typed round s s' one facts facts' v =
      both_typed (name_type f v) (λ old new. answers.widen old new round (landmarks f (width_of (name_type f v)))) (s.fact v) (s'.fact v)
      (λ a b of of'. types.widen (name_type f v) a b round (landmarks f (width_of (name_type f v))) of of' one (landmarks_of (name_type f v) a of)) (facts v) (facts' v)

  pub cut_typed : (names : ℕ → Bool) (s : AbstractState V) → Facts s → Facts (kept_names names s)
  cut_typed names s facts v = choice_is (λ o. ForSome o (Of (name_type f v))) (names v) (s.fact v) None (facts v) (none_of (Of (name_type f v)))

  -- ---- phis

  pub assigned_typed : (from : ℕ) (before : AbstractState V) (phis : List Phi) (s : AbstractState V) → All (PrintablePhi f) phis → All (TypedPhi f) phis →
      AllByRecursion (λ (p : Phi). name_type f p.result.0 ≡ Ty.Int p.width) phis → Facts before → Facts s → Facts (assigned answers f from before phis s)
  assigned_typed from before [] s printable typed names facts now = now
  assigned_typed from before (p ∷ rest) s printable typed names facts now =
      let here : Of (Ty.Int p.width) (phi_fact answers from before p) =
      fact_typed before p.width (entry_from from p.entries) facts (phi_operand f from p (All-head (PrintablePhi f) p rest printable) (All-head (TypedPhi f) p rest typed)) in
      assigned_typed from before rest (redefined f p.result.0 (phi_fact answers from before p) s) (All-tail (PrintablePhi f) p rest printable) (All-tail (TypedPhi f) p rest typed) names.1 facts
      (redefined_typed s p.result.0 (phi_fact answers from before p) now (subst (λ t. Of t (phi_fact answers from before p)) (sym names.0) here))

  -- ---- where the function begins

  parameter_typed : (params : List Param) (v : ℕ) → AllByRecursion (λ (p : Param). IsIntegerType (type_of f p.value)) params → ForSome (parameter_fact answers f params v) (Of (name_type f v))
  parameter_typed [] v integers = none_of (Of (name_type f v))
  parameter_typed (p ∷ rest) v integers = of (nat_eq p.value.0 v) refl (parameter_typed rest v integers.1)
    where
      of : (same : Bool) → nat_eq p.value.0 v ≡ same → ForSome (parameter_fact answers f rest v) (Of (name_type f v)) →
          ForSome (if same then Some (answers.any (type_of f p.value) (has_noundef p.words)) else parameter_fact answers f rest v) (Of (name_type f v))
      of true e later = some_of (Of (name_type f v)) (answers.any (type_of f p.value) (has_noundef p.words))
          (subst (λ k. Of (name_type f k) (answers.any (type_of f p.value) (has_noundef p.words))) (eqb-true p.value.0 v e)
          (types.any (type_of f p.value) (has_noundef p.words) (integer_is_type (type_of f p.value) integers.0)))
      of false e later = later

  -- ---- from block to block

  module _ (printable : IsPrintable f) (typed : Typed f) where
    pub equations : HasTypedEquations f
    equations = typed_equations f printable typed

    pub edge_typed : (e : Edge) (s : AbstractState V) → Facts s → ForSome (along_edge answers f e s) Facts
    edge_typed e s facts = of (slice_get f.blocks e.from.0) refl
      where
        of : (o : Option Block) → slice_get f.blocks e.from.0 ≡ o → ForSome (elim o [ None ↦ Some s | Some block ↦ along_way answers f block.term e.way s ]) Facts
        of None there = some_of Facts s facts
        of (Some block) there =
            way_typed equations block.term e.way s (each_of (PrintableBlock f) f.blocks e.from.0 block printable.blocks there).term (each_of (TypedBlock f) f.blocks e.from.0 block typed there).terminator facts

    edges_typed : (to : ℕ) (s : AbstractState V) (edges : List Edge) (sum : Option (AbstractState V)) → Facts s → ForSome sum Facts → ForSome (joined_edges answers f to s edges sum) Facts
    edges_typed to s [] sum facts good = good
    edges_typed to s (e ∷ rest) sum facts good =
        edges_typed to s rest (if nat_eq e.to.0 to then merged (joined answers) sum (along_edge answers f e s) else sum) facts
        (choice_is (λ o. ForSome o Facts) (nat_eq e.to.0 to) (merged (joined answers) sum (along_edge answers f e s)) sum
        (merged_is Facts (joined answers) sum (along_edge answers f e s) joined_typed good (edge_typed e s facts)) good)

    pub paired_typed : (from to : ℕ) (s : AbstractState V) → Facts s → ForSome (paired answers f from to s) Facts
    paired_typed from to s facts = edges_typed to s (edges_out f from) None facts (none_of Facts)

    pub end_typed : (b : ℕ) (s : AbstractState V) → Facts s → ForSome (before_end answers f b s) Facts
    end_typed b s facts = of (slice_get f.blocks b) refl
      where
        of : (o : Option Block) → slice_get f.blocks b ≡ o → ForSome (after_insts answers f (elim o [ None ↦ [] | Some block ↦ block.insts ]) s) Facts
        of None there = some_of Facts s facts
        of (Some block) there = insts_typed equations block.insts s facts (insts_are_typed f printable typed b block there)

    pub line_typed : (b n : ℕ) (s : AbstractState V) → Facts s → ForSome (before_line answers f b n s) Facts
    line_typed b n s facts = of (slice_get f.blocks b) refl
      where
        of : (o : Option Block) → slice_get f.blocks b ≡ o → ForSome (after_insts answers f (take n (elim o [ None ↦ [] | Some block ↦ block.insts ])) s) Facts
        of None there = ap_none n
          where
            ap_none : (k : ℕ) → ForSome (after_insts answers f (take k []) s) Facts
            ap_none zero = some_of Facts s facts
            ap_none (suc k) = some_of Facts s facts
        of (Some block) there = insts_typed equations (take n block.insts) s facts (all_taken (IsTypedInst f) block.insts n (insts_are_typed f printable typed b block there))

    pub left_typed : (from to : ℕ) (s : AbstractState V) → Facts s → ForSome (left_to answers f from to s) Facts
    left_typed from to s facts = then_keeps ty proper answers types f (before_end answers f from s) (paired answers f from to) (end_typed from s facts) (λ t facts'. paired_typed from to t facts')

    pub phis_typed : (from to : ℕ) (s : AbstractState V) → Facts s → Facts (with_phis answers f from to s)
    phis_typed from to s facts = of (slice_get f.blocks to) refl
      where
        of : (o : Option Block) → slice_get f.blocks to ≡ o → Facts (assigned answers f from s (elim o [ None ↦ [] | Some block ↦ block.phis ]) s)
        of None there = facts
        of (Some block) there =
            assigned_typed from s block.phis s (each_of (PrintableBlock f) f.blocks to block printable.blocks there).phis (each_of (TypedBlock f) f.blocks to block typed there).phis
            (phi_types f printable to block there) facts facts

    pub handed_typed : (from to : ℕ) (s : AbstractState V) → Facts s → ForSome (handed_on answers f from to s) Facts
    handed_typed from to s facts = mapped_is Facts Facts (with_phis answers f from to) (left_to answers f from to s) (phis_typed from to) (left_typed from to s facts)

    pub start_typed : Facts (start_state answers f)
    start_typed v = parameter_typed f.params v (parameters_are_integers f printable)

    pub types_are_kept : (l : Layout) → KeepsStates (flow_of answers f l) (λ _. Facts) (λ _. Facts)
    types_are_kept l = record {
      start = start_typed;
      along = handed_typed;
      join = λ _. joined_typed;
      cut = λ b. cut_typed (l.in_scope b);
      widen = λ b round old new one. widened_typed (min round last_round) old new (at_least_one round one);
    }
