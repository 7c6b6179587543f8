-- What is found out by tables that agree on the names that are read: it is the same wherever rewriting asks.
use Rattle.std.proofs.Common.{◌≡◌, ◌⊎◌, ℕ, true, false, Option, Some, None, is_some, IsTrue, inl, inr, refl, sym, ap, ◌∙◌, subst}
use Rattle.vfa_ir.specs.declared.operations.Op.{Op}
use Rattle.vfa_ir.specs.declared.operations.Operand.{Operand}
use Rattle.vfa_ir.specs.declared.operations.Ty.{Ty}
use Rattle.vfa_ir.specs.declared.operations.ValueId.{ValueId}
use Rattle.vfa_ir.specs.declared.functions.Block.{Block}
use Rattle.vfa_ir.specs.declared.functions.Function.{Function}
use Rattle.vfa_ir.specs.declared.functions.Inst.{Inst}
use Rattle.vfa_ir.specs.Defined.{operand_names, op_names}
use Rattle.vfa_ir.specs.Operands.{operands_of}
use Rattle.vfa_ir.specs.Walks.{is_in}
use Rattle.vfa_mean.specs.FreshOperands.{DefinesOnce}
use Rattle.vfa_mean.specs.Meaning.{operand_a, operand_b, operand_c}
use Rattle.vfa_mean.specs.Moments.{At, IsLine, is_call}
use Rattle.vfa_mean.proofs.FreshOperands.Definitions.{in_left, in_right}
use Rattle.vfa_cond.specs.Equations.{equation}
use Rattle.vfa_walk.specs.Stepping.{fact_of, third_type}
use Rattle.vfa_walk.specs.TruthReads.{Mentions, IsUsedAt, may_give_way, IsReadAt, AgreeOn, EntriesAgree}
use Rattle.vfa_walk.proofs.TruthEquations.{own_equation}
use Rattle.vfa_walk.proofs.TruthNames.{has_own_equation}
use Rattle.vfa_xfer.specs.declared.any_fact.AnyFact.{AnyFact}
use Rattle.vfa_xfer.specs.Transfers.{fact_answers}
use Rattle.vfa_rules.specs.declared.change.Change.{Change}
use Rattle.vfa_rules.specs.declared.change.OverflowCall.{OverflowCall}
use Rattle.vfa_rules.specs.Facts.{number_cell}
use Rattle.vfa_rules.specs.Order.{changed}
use Rattle.vfa_rules.specs.Uses.{overflow_call, known_in}
use Rattle.vfa_rules.proofs.Found.{has_source}
use Rattle.vfa_rewrite.specs.ByFacts.{FactState, FactTable, fact_state, decision_of, decision_in, first_known, second_known, known_type, facts_known, change_in, undefined_by, may_be_undefined_in, findings_of}
use Rattle.vfa_rewrite.specs.Findings.{operation_of}
use Rattle.vfa_rewrite.specs.Marks.{IsReplaced}
use Rattle.vfa_rewrite.proofs.Becoming.{names_a, names_b}
use Rattle.vfa_walk.proofs.NarrowingReads.{IsAmong, among_more, AreAmong, are_among_more, operands_among}
use Rattle.vfa_rewrite.proofs.ReadChanges.{CallIsAll, Stays, HasItsCall, all_stay}
use Rattle.vfa_rewrite.proofs.ReadOperands.{among_named, AreAllAmong, operands_named, IsOperandAt, used_operand, further, operand_is_read}
use Rattle.vfa_rewrite.proofs.ReadStates.{fact_of_same}

-- an operation that may give way is no call
way_plain : (op : Op) → IsTrue (may_give_way op) → is_call op ≡ false
way_plain (Op.Bin bin flags w a b) may = refl
way_plain (Op.Icmp pred samesign w a b) may = refl
way_plain (Op.Select w c a b) may = refl
way_plain (Op.Cast cast flags v w a) may = refl
way_plain (Op.Freeze w a) may = refl
way_plain (Op.Two fun w a b) may = refl
way_plain (Op.One fun w a strict) may = refl
way_plain (Op.Over over w a b) may = refl
way_plain (Op.Part w pair index) may = refl
way_plain (Op.Assume c) may = refl
way_plain (Op.Call w call) may = absurd cc

module _ (f : Function) (once : DefinesOnce f) where
  -- the equation of the result of an operation is its own
  line_mentions : (b i : ℕ) (block : Block) (inst : Inst) (name : ValueId) (v : ℕ) → IsLine f b block i inst → inst.result ≡ Some name → is_call inst.op ≡ false →
      is_in v (op_names f inst.op) ≡ true → Mentions f inst.op name.0 v
  line_mentions b i block inst name v line result plain member = record { equation = by (equation f name.0) refl (has_own_equation f b i block inst line name result plain); mentioned = member }
    where
      by : (o : Option Op) → equation f name.0 ≡ o → is_some o ≡ true → equation f name.0 ≡ Some inst.op
      by None e some = absurd cc
      by (Some op) e some = e ∙ ap Some (own_equation f once b i block inst name op line result e).1

  module _ (b : ℕ) where
    abbrev pub Among : Operand → Type 0
    Among x = IsAmong (IsOperandAt f b) x

    -- the operands of the overflow intrinsic of a pair
    call_among : (w : ℕ) (pair : ValueId) (index : ℕ) → IsOperandAt f b pair.0 → (o : Option OverflowCall) → overflow_call f (Op.Part w pair index) ≡ o → CallIsAll Among o
    call_among w pair index at None e = tt
    call_among w pair index at (Some call) e =
        let l = has_source f w index pair call e in
        let each : (v : ℕ) → (is_in v (operand_names call.a) ≡ true) ⊎ (is_in v (operand_names call.b) ≡ true) → IsOperandAt f b v =
        λ v member.
        let inside : is_in v (op_names f (Op.Over call.over w call.a call.b)) ≡ true =
        elim member [ inl m ↦ in_left v (operand_names call.a) (operand_names call.b) m | inr m ↦ in_right v (operand_names call.a) (operand_names call.b) m ] in
        further f b pair.0 v l.inst.op at
        (subst (λ n. Mentions f l.inst.op n v) l.is_name
        (line_mentions l.block_number l.line_number l.block l.inst l.name v l.line l.result (ap is_call l.operation)
        (subst (λ op. is_in v (op_names f op) ≡ true) (sym l.operation) inside)))
        (ap may_give_way l.operation) in
        (among_named (IsOperandAt f b) call.a (λ v m. each v (inl m)), among_named (IsOperandAt f b) call.b (λ v m. each v (inr m)))

    known_among : (op : Op) → AreAmong (IsOperandAt f b) op → Among (first_known (overflow_call f op) op) × Among (second_known (overflow_call f op) op)
    known_among (Op.Part w pair index) among = by (overflow_call f (Op.Part w pair index)) (call_among w pair index among.c (overflow_call f (Op.Part w pair index)) refl)
      where
        by : (o : Option OverflowCall) → CallIsAll Among o → Among (first_known o (Op.Part w pair index)) × Among (second_known o (Op.Part w pair index))
        by None all = (tt, tt)
        by (Some call) all = all
    known_among (Op.Bin bin flags w x y) among = (among.a, among.b)
    known_among (Op.Icmp pred samesign w x y) among = (among.a, among.b)
    known_among (Op.Select w c x y) among = (among.a, among.b)
    known_among (Op.Cast cast flags v w x) among = (among.a, among.b)
    known_among (Op.Freeze w x) among = (among.a, among.b)
    known_among (Op.Two fun w x y) among = (among.a, among.b)
    known_among (Op.One fun w x strict) among = (among.a, among.b)
    known_among (Op.Over over w x y) among = (among.a, among.b)
    known_among (Op.Assume c) among = (among.a, among.b)
    known_among (Op.Call w call) among = (among.a, among.b)

    -- ---- what is found out by two states

    module _ (s s' : FactState) (agree : AgreeOn (IsReadAt f b) s s') where
      fact_same : (ty : Ty) (x : Operand) → Among x → fact_of fact_answers s ty x ≡ fact_of fact_answers s' ty x
      fact_same ty x among = fact_of_same fact_answers f (IsReadAt f b) ty x s s' (among_more (IsOperandAt f b) (IsReadAt f b) (operand_is_read f b) x among) agree

      changed_same : (inst : Inst) → AreAmong (IsOperandAt f b) inst.op → changed (facts_known f s inst) inst.op ≡ changed (facts_known f s' inst) inst.op
      changed_same inst among =
          let known = known_among inst.op among in
          let first = fact_same (known_type inst.op) (first_known (overflow_call f inst.op) inst.op) known.0 in
          let second = fact_same (known_type inst.op) (second_known (overflow_call f inst.op) inst.op) known.1 in
          let third = fact_same (third_type inst.op) (operand_c inst.op) among.c in
          λ j. changed (known_in f inst (first j).parts (second j).parts (third j).parts) inst.op

      undefined_same : (op : Op) → AreAmong (IsOperandAt f b) op → may_be_undefined_in (Some s) op ≡ may_be_undefined_in (Some s') op
      undefined_same (Op.Bin bin flags w x y) among =
          let first = fact_same (Ty.Int w) x among.a in
          let second = fact_same (Ty.Int w) y among.b in
          λ j. undefined_by bin w (number_cell (first j).parts) (number_cell (second j).parts)
      undefined_same (Op.Icmp pred samesign w x y) among = refl
      undefined_same (Op.Select w c x y) among = refl
      undefined_same (Op.Cast cast flags v w x) among = refl
      undefined_same (Op.Freeze w x) among = refl
      undefined_same (Op.Two fun w x y) among = refl
      undefined_same (Op.One fun w x strict) among = refl
      undefined_same (Op.Over over w x y) among = refl
      undefined_same (Op.Part w pair index) among = refl
      undefined_same (Op.Assume c) among = refl
      undefined_same (Op.Call w call) among = refl

    pub change_alike : (inst : Inst) (o o' : Option FactState) → AreAmong (IsOperandAt f b) inst.op → EntriesAgree (IsReadAt f b) o o' → change_in f o inst ≡ change_in f o' inst
    change_alike inst None None among agree = refl
    change_alike inst None (Some s') among agree = absurd agree
    change_alike inst (Some s) None among agree = absurd agree
    change_alike inst (Some s) (Some s') among agree = changed_same s s' agree inst among

    pub undefined_alike : (op : Op) (o o' : Option FactState) → AreAmong (IsOperandAt f b) op → EntriesAgree (IsReadAt f b) o o' → may_be_undefined_in o op ≡ may_be_undefined_in o' op
    undefined_alike op None None among agree = refl
    undefined_alike op None (Some s') among agree = absurd agree
    undefined_alike op (Some s) None among agree = absurd agree
    undefined_alike op (Some s) (Some s') among agree = undefined_same s s' agree op among

    pub decision_alike : (ty : Ty) (x : Operand) (o o' : Option FactState) → Among x → EntriesAgree (IsReadAt f b) o o' → decision_in o ty x ≡ decision_in o' ty x
    decision_alike ty x None None among agree = refl
    decision_alike ty x None (Some s') among agree = absurd agree
    decision_alike ty x (Some s) None among agree = absurd agree
    decision_alike ty x (Some s) (Some s') among agree = ap (λ (d : AnyFact). decision_of d.parts) (fact_same s s' agree ty x among)

    -- ---- instructions

    module _ (block : Block) (i : ℕ) (inst : Inst) (line : IsLine f b block i inst) where
      named_here : (v : ℕ) → is_in v (op_names f inst.op) ≡ true → IsOperandAt f b v
      named_here v member = used_operand f b v (IsUsedAt.by_instruction block i inst line member)

      pub line_among : AreAmong (IsOperandAt f b) inst.op
      line_among = are_among_more (λ v. IsTrue (is_in v (op_names f inst.op))) (IsOperandAt f b) named_here inst.op (operands_among f inst.op)

      own_among : AreAllAmong (IsOperandAt f b) (operands_of f inst.op)
      own_among = operands_named (IsOperandAt f b) f inst.op named_here

      has_its_call : (s : FactState) → HasItsCall f (facts_known f s inst) Among inst.op
      has_its_call s = by inst.op refl line_among
        where
          by : (op : Op) → inst.op ≡ op → AreAmong (IsOperandAt f b) op → HasItsCall f (facts_known f s inst) Among op
          by (Op.Part w pair index) e among =
              subst (λ o. CallIsAll Among (overflow_call f o)) (sym e) (call_among w pair index among.c (overflow_call f (Op.Part w pair index)) refl)
          by (Op.Bin bin flags w x y) e among = tt
          by (Op.Icmp pred samesign w x y) e among = tt
          by (Op.Select w c x y) e among = tt
          by (Op.Cast cast flags v w x) e among = tt
          by (Op.Freeze w x) e among = tt
          by (Op.Two fun w x y) e among = tt
          by (Op.One fun w x strict) e among = tt
          by (Op.Over over w x y) e among = tt
          by (Op.Assume c) e among = tt
          by (Op.Call w call) e among = tt

      pub line_stays : (s : FactState) → Stays f (facts_known f s inst) Among inst.op (changed (facts_known f s inst) inst.op)
      line_stays s = all_stay f (facts_known f s inst) Among inst.op own_among (has_its_call s)

      -- the operands after a change
      pub worked_among : (o : Option FactState) → AreAllAmong (IsOperandAt f b) (operands_of f (operation_of (change_in f o inst) inst.op))
      worked_among None = own_among
      worked_among (Some s) = by (changed (facts_known f s inst) inst.op) (line_stays s)
        where
          by : (c : Change) → Stays f (facts_known f s inst) Among inst.op c → AreAllAmong (IsOperandAt f b) (operands_of f (operation_of c inst.op))
          by (Change.Keep op) h = h
          by (Change.Narrow op v) h = h
          by (Change.Uses u) h = own_among
          by Change.Gone h = own_among

  -- ---- an operand that takes the place of a name

  pub replaced_among : (t : FactTable) (b n : ℕ) (u : Operand) → IsOperandAt f b n → IsReplaced f (findings_of f t) n u → IsAmong (IsOperandAt f b) u
  replaced_among t b n u at r = by (fact_state f t (At r.b r.i)) r.uses
    where
      by : (o : Option FactState) → change_in f o r.inst ≡ Change.Uses u → IsAmong (IsOperandAt f b) u
      by None e = absurd cc
      by (Some s) e =
          let way : IsTrue (may_give_way r.inst.op) × ((u ≡ operand_a r.inst.op) ⊎ (u ≡ operand_b r.inst.op)) =
          subst (Stays f (facts_known f s r.inst) (Among r.b) r.inst.op) e (line_stays r.b r.block r.i r.inst r.line s) in
          let member : (v : ℕ) → is_in v (operand_names u) ≡ true → is_in v (op_names f r.inst.op) ≡ true =
          λ v h. elim way.1 [
            | inl is ↦ names_a f r.inst.op v (subst (λ x. is_in v (operand_names x) ≡ true) is h)
            | inr is ↦ names_b f r.inst.op v (subst (λ x. is_in v (operand_names x) ≡ true) is h)
          ] in
          among_named (IsOperandAt f b) u
          (λ v h. further f b n v r.inst.op at
          (subst (λ x. Mentions f r.inst.op x v) r.same (line_mentions r.b r.i r.block r.inst r.name v r.line r.result (way_plain r.inst.op way.0) (member v h))) way.0)
