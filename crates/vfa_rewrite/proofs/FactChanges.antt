-- What the rules make of instructions by the facts of a true table holds.
use Rattle.std.proofs.Common.{◌≡◌, ℕ, suc, ◌++◌, Bool, true, false, nat_eq, if◌then◌else◌, Option, Some, None, IfSome, List, [], ◌∷◌, is_some, IsSomeAnd, slice_get, refl, sym, ap, ◌∙◌, subst, inl, inr, ◌⊎◌}
use Rattle.std.proofs.lemmas.Bool.{eqb-true}
use Rattle.std.proofs.lemmas.Option.{same_Some}
use Rattle.std.specs.Option.{ForSome, option_or}
use Rattle.vfa_ir.specs.declared.operations.Op.{Op}
use Rattle.vfa_ir.specs.declared.operations.Operand.{Operand}
use Rattle.vfa_ir.specs.declared.operations.Ty.{Ty}
use Rattle.vfa_ir.specs.declared.operations.ValueId.{ValueId}
use Rattle.vfa_ir.specs.declared.functions.Block.{Block}
use Rattle.vfa_ir.specs.declared.functions.Function.{Function}
use Rattle.vfa_ir.specs.declared.functions.Inst.{Inst}
use Rattle.vfa_ir.specs.Defined.{operand_names, op_names}
use Rattle.vfa_ir.specs.Printable.{IsPrintable}
use Rattle.vfa_ir.specs.Words.{is_in}
use Rattle.vfa_fact.specs.declared.cell.Parts.{Parts}
use Rattle.vfa_mean.specs.declared.value.Val.{Val}
use Rattle.vfa_mean.specs.FreshOperands.{IsDefinedAtPlace, IsResultAt}
use Rattle.vfa_mean.specs.Laws.{AllowsResult}
use Rattle.vfa_mean.specs.Meaning.{Result, Undefined, Gave, Gives, operand_c}
use Rattle.vfa_mean.specs.Moments.{Place, At, Moment, IsLine, is_call}
use Rattle.vfa_mean.specs.Operands.{IsOperation}
use Rattle.vfa_mean.specs.Values.{Env, operand_value}
use Rattle.vfa_mean.proofs.FreshOperands.{gives_now}
use Rattle.vfa_mean.proofs.FreshOperands.Definitions.{in_left, in_right, in_first}
use Rattle.vfa_mean.proofs.FreshOperands.Walking.{use_is_defined}
use Rattle.vfa_mean.proofs.Refining.{AllowsValue-refl}
use Rattle.vfa_values.specs.Conditions.{IsOf}
use Rattle.vfa_cond.proofs.Fitting.{bit_width}
use Rattle.vfa_check.specs.Checked.{IsChecked}
use Rattle.vfa_walk.specs.Stepping.{fact_of, third_type}
use Rattle.vfa_walk.specs.Tables.{IsTrueTable}
use Rattle.vfa_walk.specs.TruthLaws.{HasTypedFacts}
use Rattle.vfa_walk.proofs.TruthTypes.{IsTypedOp, line_is_typed, is_operation, written_width}
use Rattle.vfa_xfer.specs.declared.any_fact.AnyFact.{AnyFact}
use Rattle.vfa_xfer.specs.AnyFacts.{HoldsOf, IsAnyFact, fact_type}
use Rattle.vfa_xfer.specs.Transfers.{fact_answers}
use Rattle.vfa_rules.specs.declared.change.Change.{Change}
use Rattle.vfa_rules.specs.declared.change.OverflowCall.{OverflowCall}
use Rattle.vfa_rules.specs.Facts.{type_of_parts, AreCells, PartsHold}
use Rattle.vfa_rules.specs.Order.{Known, changed}
use Rattle.vfa_rules.specs.Results.{AreFactsFor, FactsHold, IsAllowed, IsSoundAt}
use Rattle.vfa_rules.specs.Uses.{first_found, overflow_of, overflow_in, overflow_call, is_result, is_used}
use Rattle.vfa_rules.proofs.Sound.{changed_sound}
use Rattle.vfa_rewrite.specs.ByFacts.{FactState, FactTable, fact_state, first_known, second_known, known_type, change_in, findings_of}
use Rattle.vfa_rewrite.specs.Findings.{IsUsable, AreUsable, StaysGiving, ChangeFits, ChangeHolds, ChangesHold}
use Rattle.vfa_rewrite.proofs.ChangeForms.{CallIsUsable, CallFits, formed}
use Rattle.vfa_rewrite.proofs.FactDecisions.{state_typed, operand_typed, fact_holds, met_at, MetIn, OfTypes}
use Rattle.vfa_rewrite.proofs.FreshNames.{IsNamed, named_result}
use Rattle.vfa_rewrite.proofs.LiveOperands.{operand_is_live}
use Rattle.vfa_rewrite.proofs.MarkedLines.{usable_operand}

-- ---- the overflow intrinsic of a pair

record IsOverflowLine (f : Function) (w v : ℕ) (call : OverflowCall) : Type 0 where
  b : ℕ
  block : Block
  i : ℕ
  inst : Inst
  name : ValueId
  line : IsLine f b block i inst
  result : inst.result ≡ Some name
  same : name.0 ≡ v
  is : inst.op ≡ Op.Over call.over w call.a call.b

or_found : {A : Type 0} (p q : Option A) (x : A) → option_or p q ≡ Some x → (p ≡ Some x) ⊎ (q ≡ Some x)
or_found None q x h = inr h
or_found (Some y) q x h = inl h

over_op : (w : ℕ) (op : Op) (call : OverflowCall) → overflow_of w op ≡ Some call → op ≡ Op.Over call.over w call.a call.b
over_op w (Op.Over over u a b) call h = by (nat_eq u w) refl h
  where
    by : (t : Bool) → nat_eq u w ≡ t → (if t then Some (record { over = over; a = a; b = b }) else None) ≡ Some call → Op.Over over u a b ≡ Op.Over call.over w call.a call.b
    by true e h =
        let same : record { over = over; a = a; b = b } ≡ call = same_Some (record { over = over; a = a; b = b }) call h in
        ap (λ x. Op.Over over x a b) (eqb-true u w e) ∙ ap (λ (c : OverflowCall). Op.Over c.over w c.a c.b) same
    by false e h = absurd (cc)
over_op w (Op.Bin bin flags u a b) call h = absurd (cc)
over_op w (Op.Icmp pred samesign u a b) call h = absurd (cc)
over_op w (Op.Select u c a b) call h = absurd (cc)
over_op w (Op.Cast cast flags u x a) call h = absurd (cc)
over_op w (Op.Freeze u a) call h = absurd (cc)
over_op w (Op.Two fun u a b) call h = absurd (cc)
over_op w (Op.One fun u a strict) call h = absurd (cc)
over_op w (Op.Part u pair index) call h = absurd (cc)
over_op w (Op.Assume c) call h = absurd (cc)
over_op w (Op.Call u c) call h = absurd (cc)

record IsOverflowInst (w v : ℕ) (call : OverflowCall) (inst : Inst) : Type 0 where
  named : IsNamed inst.result v
  is : inst.op ≡ Op.Over call.over w call.a call.b

over_inst : (w v : ℕ) (inst : Inst) (call : OverflowCall) → overflow_in w v inst ≡ Some call → IsOverflowInst w v call inst
over_inst w v inst call h = by (is_result v inst.result) refl h
  where
    by : (t : Bool) → is_result v inst.result ≡ t → (if t then overflow_of w inst.op else None) ≡ Some call → IsOverflowInst w v call inst
    by true e h = record { named = named_result inst.result v e; is = over_op w inst.op call h }
    by false e h = absurd (cc)

record FoundInst (w v : ℕ) (call : OverflowCall) (insts : List Inst) : Type 0 where
  i : ℕ
  inst : Inst
  there : slice_get insts i ≡ Some inst
  is : IsOverflowInst w v call inst

found_in : (w v : ℕ) (insts : List Inst) (call : OverflowCall) → first_found (overflow_in w v) insts ≡ Some call → FoundInst w v call insts
found_in w v [] call h = absurd (cc)
found_in w v (inst ∷ insts) call h = elim (or_found (overflow_in w v inst) (first_found (overflow_in w v) insts) call h) [
  | inl e ↦ record { i = 0; inst = inst; there = refl; is = over_inst w v inst call e }
  | inr r ↦ let l = found_in w v insts call r in record { i = suc l.i; inst = l.inst; there = l.there; is = l.is }
]

record FoundBlock (w v : ℕ) (call : OverflowCall) (blocks : List Block) : Type 0 where
  b : ℕ
  block : Block
  there : slice_get blocks b ≡ Some block
  found : FoundInst w v call block.insts

found_block : (w v : ℕ) (blocks : List Block) (call : OverflowCall) → first_found (λ (b : Block). first_found (overflow_in w v) b.insts) blocks ≡ Some call → FoundBlock w v call blocks
found_block w v [] call h = absurd (cc)
found_block w v (block ∷ blocks) call h =
    elim (or_found (first_found (overflow_in w v) block.insts) (first_found (λ (b : Block). first_found (overflow_in w v) b.insts) blocks) call h) [
      | inl e ↦ record { b = 0; block = block; there = refl; found = found_in w v block.insts call e }
      | inr r ↦ let l = found_block w v blocks call r in record { b = suc l.b; block = l.block; there = l.there; found = l.found }
    ]

overflow_line : (f : Function) (w : ℕ) (pair : ValueId) (index : ℕ) (call : OverflowCall) → overflow_call f (Op.Part w pair index) ≡ Some call → IsOverflowLine f w pair.0 call
overflow_line f w pair index call h =
    let l = found_block w pair.0 f.blocks call h in
    record {
      b = l.b;
      block = l.block;
      i = l.found.i;
      inst = l.found.inst;
      name = l.found.is.named.name;
      line = record { there = l.there; stands = l.found.there };
      result = l.found.is.named.is;
      same = l.found.is.named.same;
      is = l.found.is.is;
    }

-- ---- operands that may be used

usable_by : (f : Function) (place : Place) (op : Op) → is_call op ≡ false → IsTypedOp f op → ((n : ℕ) → is_in n (op_names f op) ≡ true → IsDefinedAtPlace f place n) → AreUsable f place op
usable_by f place (Op.Bin bin flags w a b) plain t live = (
  usable_operand f place w a (written_width w t.ranges.1.of_width) t.operands.first t.ranges.1.first (λ n h. live n (in_left n (operand_names a) (operand_names b) h)),
  usable_operand f place w b (written_width w t.ranges.1.of_width) t.operands.second t.ranges.1.second (λ n h. live n (in_right n (operand_names a) (operand_names b) h)),
)
usable_by f place (Op.Icmp pred samesign w a b) plain t live = (
  usable_operand f place w a (written_width w t.ranges.of_width) t.operands.first t.ranges.first (λ n h. live n (in_left n (operand_names a) (operand_names b) h)),
  usable_operand f place w b (written_width w t.ranges.of_width) t.operands.second t.ranges.second (λ n h. live n (in_right n (operand_names a) (operand_names b) h)),
)
usable_by f place (Op.Select w c a b) plain t live =
    let two = operand_names a ++ operand_names b in (
      usable_operand f place 1 c bit_width t.operands.0 t.ranges.0 (λ n h. live n (in_left n (operand_names c) two h)),
      usable_operand f place w a (written_width w t.ranges.1.of_width) t.operands.1.first t.ranges.1.first
          (λ n h. live n (in_right n (operand_names c) two (in_left n (operand_names a) (operand_names b) h))),
      usable_operand f place w b (written_width w t.ranges.1.of_width) t.operands.1.second t.ranges.1.second
          (λ n h. live n (in_right n (operand_names c) two (in_right n (operand_names a) (operand_names b) h))),
    )
usable_by f place (Op.Cast cast flags v w a) plain t live = usable_operand f place v a (written_width v t.ranges.1) t.operands.0 t.ranges.2 live
usable_by f place (Op.Freeze w a) plain t live = usable_operand f place w a (written_width w t.ranges.0) t.operands t.ranges.1 live
usable_by f place (Op.Two fun w a b) plain t live = (
  usable_operand f place w a (written_width w t.ranges.of_width) t.operands.first t.ranges.first (λ n h. live n (in_left n (operand_names a) (operand_names b) h)),
  usable_operand f place w b (written_width w t.ranges.of_width) t.operands.second t.ranges.second (λ n h. live n (in_right n (operand_names a) (operand_names b) h)),
)
usable_by f place (Op.One fun w a strict) plain t live = usable_operand f place w a (written_width w t.ranges.0) t.operands t.ranges.1 live
usable_by f place (Op.Over over w a b) plain t live = (
  usable_operand f place w a (written_width w t.ranges.of_width) t.operands.first t.ranges.first (λ n h. live n (in_left n (operand_names a) (operand_names b) h)),
  usable_operand f place w b (written_width w t.ranges.of_width) t.operands.second t.ranges.second (λ n h. live n (in_right n (operand_names a) (operand_names b) h)),
)
usable_by f place (Op.Part w pair index) plain t live =
    record { is_type = written_width w t.ranges.0; typed = t.operands; defined = live pair.0 (in_first pair.0 pair.0 [] refl) }
usable_by f place (Op.Assume c) plain t live = usable_operand f place 1 c bit_width t.operands t.ranges live
usable_by f place (Op.Call w call) plain t live = absurd (cc)

AllowsResult-refl : (r : Result) → AllowsResult r r
AllowsResult-refl Undefined = tt
AllowsResult-refl (Gave v) = AllowsValue-refl v

-- what the rules say of results, of the lines that stay
stays_allowed : (op : Op) (env : Env) (c : Change) → IsSoundAt op env c → (r' : Result) → StaysGiving c op env r' → IsAllowed op env r'
stays_allowed op env (Change.Keep o) sound r' gives = sound.results.each r' gives
stays_allowed op env (Change.Narrow o v) sound r' gives = sound.results.each r' gives
stays_allowed op env (Change.Uses u) sound r' gives = record { result = r'; gives = gives; allows = AllowsResult-refl r' }
stays_allowed op env Change.Gone sound r' gives = record { result = r'; gives = gives; allows = AllowsResult-refl r' }

-- facts of the two crates are the same
of_parts : (ty : Ty) (d : AnyFact) → IsOf fact_type IsAnyFact ty d → IsOf type_of_parts AreCells ty d.parts
of_parts ty d of = record { is_proper = of.is_proper; typed = of.typed }

parts_hold : (d : AnyFact) (v : Val) → HoldsOf d v → PartsHold d.parts v
parts_hold d v h = h

module _ (f : Function) (t : FactTable) (checked : IsChecked f) (printable : IsPrintable f) (facts : HasTypedFacts fact_type IsAnyFact f t) where
  module _ (place : Place) (s : FactState) where
    abbrev fact : Ty → Operand → Parts
    fact ty a = (fact_of fact_answers s ty a).parts

    abbrev known_for : Op → Bool → Known
    known_for op used = record {
      a = fact (known_type op) (first_known (overflow_call f op) op);
      b = fact (known_type op) (second_known (overflow_call f op) op);
      c = fact (third_type op) (operand_c op);
      call = overflow_call f op;
      used = used;
    }

    call_usable : (w : ℕ) (pair : ValueId) (index : ℕ) (used : Bool) → IsUsable f place (Ty.Pair w) (Operand.Value pair) → (o : Option OverflowCall) →
        overflow_call f (Op.Part w pair index) ≡ o → CallIsUsable f place (known_for (Op.Part w pair index) used) o w
    call_usable w pair index used usable None e = tt
    call_usable w pair index used usable (Some call) e =
        let l = overflow_line f w pair index call e in
        let typed = subst (λ op. IsTypedOp f op) l.is (line_is_typed f printable checked.formed.typed l.b l.i l.block l.inst l.line) in
        usable_by f place (Op.Over call.over w call.a call.b) refl typed
        (λ n h. operand_is_live f checked.once checked.formed.defined l.b l.i l.block l.inst l.name l.line l.result n
        (subst (λ op. is_in n (op_names f op) ≡ true) (sym l.is) h) place (subst (λ v. IsDefinedAtPlace f place v) (sym l.same) usable.defined))

    call_fits : (op : Op) (used : Bool) → is_call op ≡ false → AreUsable f place op → CallFits f place (known_for op used) op
    call_fits (Op.Part w pair index) used plain usable = call_usable w pair index used usable (overflow_call f (Op.Part w pair index)) refl
    call_fits (Op.Bin bin flags w a b) used plain usable = tt
    call_fits (Op.Icmp pred samesign w a b) used plain usable = tt
    call_fits (Op.Select w c a b) used plain usable = tt
    call_fits (Op.Cast cast flags v w a) used plain usable = tt
    call_fits (Op.Freeze w a) used plain usable = tt
    call_fits (Op.Two fun w a b) used plain usable = tt
    call_fits (Op.One fun w a strict) used plain usable = tt
    call_fits (Op.Over over w a b) used plain usable = tt
    call_fits (Op.Assume c) used plain usable = tt
    call_fits (Op.Call w call) used plain usable = absurd (cc)

    module _ (of_types : OfTypes f t checked printable facts s) where
      of : (ty : Ty) (a : Operand) → IsUsable f place ty a → IsOf type_of_parts AreCells ty (fact ty a)
      of ty a usable = of_parts ty (fact_of fact_answers s ty a) (operand_typed f t checked printable facts s ty a of_types usable.is_type usable.typed)

      call_of : (w : ℕ) (pair : ValueId) (index : ℕ) (used : Bool) (o : Option OverflowCall) → CallIsUsable f place (known_for (Op.Part w pair index) used) o w →
          IfSome o (λ call. IsOf type_of_parts AreCells (Ty.Int w) (fact (Ty.Int w) (first_known o (Op.Part w pair index))) × IsOf type_of_parts AreCells (Ty.Int w) (fact (Ty.Int w) (second_known o (Op.Part w pair index))))
      call_of w pair index used None usable = tt
      call_of w pair index used (Some call) usable = (of (Ty.Int w) call.a usable.0, of (Ty.Int w) call.b usable.1)

      facts_for : (op : Op) (used : Bool) → is_call op ≡ false → AreUsable f place op → AreFactsFor (known_for op used) op
      facts_for (Op.Bin bin flags w a b) used plain usable = record { operands = (of (Ty.Int w) a usable.0, of (Ty.Int w) b usable.1); call_operands = tt }
      facts_for (Op.Icmp pred samesign w a b) used plain usable = record { operands = (of (Ty.Int w) a usable.0, of (Ty.Int w) b usable.1); call_operands = tt }
      facts_for (Op.Select w c a b) used plain usable =
          record { operands = (of (Ty.Int w) a usable.1, of (Ty.Int w) b usable.2, of (Ty.Int 1) c usable.0); call_operands = tt }
      facts_for (Op.Cast cast flags v w a) used plain usable = record { operands = of (Ty.Int v) a usable; call_operands = tt }
      facts_for (Op.Freeze w a) used plain usable = record { operands = of (Ty.Int w) a usable; call_operands = tt }
      facts_for (Op.Two fun w a b) used plain usable = record { operands = (of (Ty.Int w) a usable.0, of (Ty.Int w) b usable.1); call_operands = tt }
      facts_for (Op.One fun w a strict) used plain usable = record { operands = of (Ty.Int w) a usable; call_operands = tt }
      facts_for (Op.Over over w a b) used plain usable = record { operands = (of (Ty.Int w) a usable.0, of (Ty.Int w) b usable.1); call_operands = tt }
      facts_for (Op.Part w pair index) used plain usable = record {
        operands = of (Ty.Pair w) (Operand.Value pair) usable;
        call_operands = call_of w pair index used (overflow_call f (Op.Part w pair index)) (call_fits (Op.Part w pair index) used plain usable);
      }
      facts_for (Op.Assume c) used plain usable = record { operands = of (Ty.Int 1) c usable; call_operands = tt }
      facts_for (Op.Call w call) used plain usable = absurd (cc)

    module _ (is_true : IsTrueTable HoldsOf f t) (env : Env) (moment : Moment f place env) (met : MetIn f t checked printable facts is_true env s) where
      at : (ty : Ty) (a : Operand) → IsUsable f place ty a → PartsHold (fact ty a) (operand_value env a)
      at ty a usable = parts_hold (fact_of fact_answers s ty a) (operand_value env a)
          (fact_holds f t checked printable facts is_true env s place ty a moment met usable.is_type usable.typed)

      call_at : (w : ℕ) (pair : ValueId) (index : ℕ) (used : Bool) → IsUsable f place (Ty.Pair w) (Operand.Value pair) → (o : Option OverflowCall) → overflow_call f (Op.Part w pair index) ≡ o →
          CallIsUsable f place (known_for (Op.Part w pair index) used) o w →
          IfSome o (λ (call : OverflowCall). PartsHold (fact (Ty.Int w) (first_known o (Op.Part w pair index))) (operand_value env call.a)
          × PartsHold (fact (Ty.Int w) (second_known o (Op.Part w pair index))) (operand_value env call.b) × Gives (Op.Over call.over w call.a call.b) env (Gave (env pair.0)))
      call_at w pair index used usable None e of_call = tt
      call_at w pair index used usable (Some call) e of_call =
          let l = overflow_line f w pair index call e in
          let own : IsResultAt f l.b l.i l.inst l.name = record { block = l.block; line = l.line; result = l.result; operation = ap is_call l.is } in
          let gives = gives_now f checked.once checked.formed.defined l.b l.i l.inst l.name place env own (subst (λ v. IsDefinedAtPlace f place v) (sym l.same) usable.defined) moment in (
            at (Ty.Int w) call.a of_call.0,
            at (Ty.Int w) call.b of_call.1,
            subst (λ v. Gives (Op.Over call.over w call.a call.b) env (Gave (env v))) l.same (subst (λ op. Gives op env (Gave (env l.name.0))) l.is gives),
          )

      facts_at : (op : Op) (used : Bool) → is_call op ≡ false → AreUsable f place op → FactsHold (known_for op used) op env
      facts_at (Op.Bin bin flags w a b) used plain usable = record { operands = (at (Ty.Int w) a usable.0, at (Ty.Int w) b usable.1); call_operands = tt }
      facts_at (Op.Icmp pred samesign w a b) used plain usable = record { operands = (at (Ty.Int w) a usable.0, at (Ty.Int w) b usable.1); call_operands = tt }
      facts_at (Op.Select w c a b) used plain usable =
          record { operands = (at (Ty.Int w) a usable.1, at (Ty.Int w) b usable.2, at (Ty.Int 1) c usable.0); call_operands = tt }
      facts_at (Op.Cast cast flags v w a) used plain usable = record { operands = at (Ty.Int v) a usable; call_operands = tt }
      facts_at (Op.Freeze w a) used plain usable = record { operands = at (Ty.Int w) a usable; call_operands = tt }
      facts_at (Op.Two fun w a b) used plain usable = record { operands = (at (Ty.Int w) a usable.0, at (Ty.Int w) b usable.1); call_operands = tt }
      facts_at (Op.One fun w a strict) used plain usable = record { operands = at (Ty.Int w) a usable; call_operands = tt }
      facts_at (Op.Over over w a b) used plain usable = record { operands = (at (Ty.Int w) a usable.0, at (Ty.Int w) b usable.1); call_operands = tt }
      facts_at (Op.Part w pair index) used plain usable = record {
        operands = at (Ty.Pair w) (Operand.Value pair) usable;
        call_operands = call_at w pair index used usable (overflow_call f (Op.Part w pair index)) refl (call_fits (Op.Part w pair index) used plain usable);
      }
      facts_at (Op.Assume c) used plain usable = record { operands = at (Ty.Int 1) c usable; call_operands = tt }
      facts_at (Op.Call w call) used plain usable = absurd (cc)

  -- ---- each change

  module _ (b : ℕ) (block : Block) (i : ℕ) (inst : Inst) (line : IsLine f b block i inst) (plain : is_call inst.op ≡ false) where
    does_operation : IsOperation inst.op
    does_operation = is_operation f inst.op plain (line_is_typed f printable checked.formed.typed b i block inst line)

    usable_here : AreUsable f (At b i) inst.op
    usable_here = usable_by f (At b i) inst.op plain (line_is_typed f printable checked.formed.typed b i block inst line)
        (λ n h. use_is_defined f b block i inst n checked.formed.defined line h)

    fits_in : (s : FactState) → ChangeFits f (At b i) inst.op (change_in f (Some s) inst)
    fits_in s =
        let used = is_used f inst.result in
        formed f (At b i) (known_for (At b i) s inst.op used) inst.op plain does_operation usable_here (call_fits (At b i) s inst.op used plain usable_here)

    change_fits : (o : Option FactState) → is_some o ≡ true → ChangeFits f (At b i) inst.op (change_in f o inst)
    change_fits None met = absurd (cc)
    change_fits (Some s) met = fits_in s

    change_by : IsTrueTable HoldsOf f t → (o : Option FactState) → fact_state f t (At b i) ≡ o → ForSome o (OfTypes f t checked printable facts) → is_some o ≡ true →
        ChangeHolds f (At b i) inst.op (change_in f o inst)
    change_by is_true None e typed met = absurd (cc)
    change_by is_true (Some s) e typed met =
        let used = is_used f inst.result in
        let k = known_for (At b i) s inst.op used in
        let form = fits_in s in
        let sound = λ (env : Env) (moment : Moment f (At b i) env).
        let at_moment = subst (λ o. IsSomeAnd o (MetIn f t checked printable facts is_true env)) e (met_at f t checked printable facts is_true (At b i) env moment) in
        changed_sound k inst.op (facts_for (At b i) s (typed s refl) inst.op used plain usable_here) (λ _. does_operation) env (facts_at (At b i) s is_true env moment at_moment inst.op used plain usable_here) in
        record {
          fits = form.fits;
          usable = form.usable;
          allows = λ env moment r' gives. stays_allowed inst.op env (changed k inst.op) (sound env moment) r' gives;
          replaced = λ env moment. (sound env moment).replaced;
        }

  pub changes_fit : (b : ℕ) (block : Block) (i : ℕ) (inst : Inst) → IsLine f b block i inst → (findings_of f t).met b i ≡ true → is_call inst.op ≡ false →
      ChangeFits f (At b i) inst.op ((findings_of f t).change b i inst)
  changes_fit b block i inst line met plain = change_fits b block i inst line plain (fact_state f t (At b i)) met

  pub changes_hold : IsTrueTable HoldsOf f t → ChangesHold f (findings_of f t)
  changes_hold is_true b block i inst line met plain =
      change_by b block i inst line plain is_true (fact_state f t (At b i)) refl (state_typed f t checked printable facts (At b i)) met
