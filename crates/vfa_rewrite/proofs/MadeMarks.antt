-- The marks that are made of the findings, of the blocks that are reached and of the names that are used are the marks of the findings.
use Rattle.std.proofs.Common.{◌≡◌, ◌<◌, ◌^◌, ℕ, ◌+◌, ◌*◌, ◌↔◌, ◌||◌, Bool, true, false, Option, Some, None, length, slice_get, refl, sym, ap, ◌∙◌, subst, inl, inr, ◌⊎◌}
use Rattle.std.specs.List.{AllByRecursion}
use Rattle.std.specs.Option.{ForSome}
use Rattle.vfa_ir.specs.declared.operations.BlockId.{BlockId}
use Rattle.vfa_ir.specs.declared.operations.Operand.{Operand}
use Rattle.vfa_ir.specs.declared.operations.Ty.{Ty}
use Rattle.vfa_ir.specs.declared.operations.ValueId.{ValueId}
use Rattle.vfa_ir.specs.declared.functions.Block.{Block}
use Rattle.vfa_ir.specs.declared.functions.Function.{Function}
use Rattle.vfa_ir.specs.declared.functions.Inst.{Inst}
use Rattle.vfa_ir.specs.declared.functions.Phi.{Phi}
use Rattle.vfa_ir.specs.PhisFit.{targets}
use Rattle.vfa_ir.specs.Printable.{IsPrintable}
use Rattle.vfa_ir.specs.Walks.{IsReached}
use Rattle.vfa_word.specs.Numbers.{IsWidth}
use Rattle.vfa_mean.specs.declared.value.Val.{Val}
use Rattle.vfa_mean.specs.Moments.{Place, IsLine}
use Rattle.vfa_mean.proofs.FreshOperands.Definitions.{or_cases, or_left, or_right}
use Rattle.vfa_check.specs.Checked.{IsChecked}
use Rattle.vfa_walk.specs.Stepping.{fact_of}
use Rattle.vfa_walk.specs.TruthLaws.{HasTypedFacts}
use Rattle.vfa_xfer.specs.AnyFacts.{IsAnyFact, fact_type}
use Rattle.vfa_xfer.specs.TransferLaws.{fact_laws}
use Rattle.vfa_xfer.specs.Transfers.{fact_answers}
use Rattle.vfa_demand.specs.Used.{AreUsed}
use Rattle.vfa_rules.specs.declared.change.Change.{Change}
use Rattle.vfa_rewrite.specs.ByFacts.{FactState, FactTable, fact_state, decision_in, findings_of}
use Rattle.vfa_rewrite.specs.Findings.{Decision, OneNumber, NoNumber, Undecided, DecisionHolds, Findings}
use Rattle.vfa_rewrite.specs.Making.{line_at, must_stay_at, is_kept_result, result_number, first_marks, made_marks, stays_at}
use Rattle.vfa_rewrite.specs.Marks.{Becomes, number, no_number, stays, Reached, MustStay, ResultIsKept, LineIsMarked, EntryIsMarked, BlockIsMarked, AreMarks}
use Rattle.vfa_rewrite.specs.Rewritten.{Marks, edges_from, if_reached, edges_of, rewritten}
use Rattle.vfa_rewrite.proofs.Chains.{left_on_walk}
use Rattle.vfa_rewrite.proofs.FactDecisions.{parts_decide, state_typed, operand_typed, OfTypes}
use Rattle.vfa_rewrite.proofs.FindingsFit.{are_fitting}
use Rattle.vfa_rewrite.proofs.FirstStep.{line_there}
use Rattle.vfa_rewrite.proofs.MadeAdded.{are_added}
use Rattle.vfa_rewrite.proofs.MadeCalls.{argument_put, argument_stays}
use Rattle.vfa_rewrite.proofs.MadeKept.{stays_must, must_stays, keeps_is}
use Rattle.vfa_rewrite.proofs.MadeOperands.{IsGround, line_put, term_put, entry_put}
use Rattle.vfa_rewrite.proofs.MarkedBlocks.{all_at}

module _ (f : Function) (found : Findings) (ground : IsGround f found) (reached used : ℕ → Bool) (must : ℕ → ℕ → Bool)
    (is_reached : (b : ℕ) → (reached b ≡ true) ↔ Reached f found b)
    (must_is : (b i : ℕ) (inst : Inst) → line_at f b i ≡ Some inst → found.met b i ≡ true → must b i ≡ must_stay_at f found b i)
    (are_used : AreUsed (rewritten f (first_marks f found reached)) must used) where
  abbrev Made : Marks
  Made = made_marks f found reached used

  walked : (b : ℕ) → reached b ≡ true → IsReached f b
  walked b left = left_on_walk f found b ((is_reached b).0 left)

  -- ---- lines

  kept_result : (result : Option ValueId) → is_kept_result used result ≡ true → ResultIsKept Made result
  kept_result None h = absurd (cc)
  kept_result (Some name) h = h

  result_kept : (result : Option ValueId) → ResultIsKept Made result → is_kept_result used result ≡ true
  result_kept None h = absurd h
  result_kept (Some name) h = h

  module _ (b : ℕ) (block : Block) (there : slice_get f.blocks b ≡ Some block) (left : reached b ≡ true) where
    module _ (i : ℕ) (inst : Inst) (stands : slice_get block.insts i ≡ Some inst) where
      at_line : line_at f b i ≡ Some inst
      at_line = line_there f b block i inst there stands

      own_line : IsLine f b block i inst
      own_line = record { there = there; stands = stands }

      stays_is : stays_at f found used b i ≡ (must_stay_at f found b i || is_kept_result used inst.result)
      stays_is = ap (λ o. elim o [ None ↦ false | Some x ↦ must_stay_at f found b i || is_kept_result used x.result ]) at_line

      stays_why : stays_at f found used b i ≡ true → MustStay found b i inst ⊎ ResultIsKept Made inst.result
      stays_why h = elim (or_cases (must_stay_at f found b i) (is_kept_result used inst.result) (sym stays_is ∙ h)) [
        | inl e ↦ inl (must_stays f found b i inst at_line e)
        | inr e ↦ inr (kept_result inst.result e)
      ]

      why_stays : MustStay found b i inst ⊎ ResultIsKept Made inst.result → stays_at f found used b i ≡ true
      why_stays (inl e) = stays_is ∙ or_left (must_stay_at f found b i) (is_kept_result used inst.result) (stays_must f found b i inst at_line e)
      why_stays (inr e) = stays_is ∙ or_right (must_stay_at f found b i) (is_kept_result used inst.result) (result_kept inst.result e)

      line_marked : found.met b i ≡ true → LineIsMarked f found Made b i inst
      line_marked met = record {
        change = ap (λ o. elim o [ None ↦ Change.Gone | Some x ↦ found.change b i x ]) at_line;
        operands = line_put f found ground b i (walked b left) block inst own_line met;
        arguments = λ width k is a. argument_put f ground.printable found reached k b i block inst width a own_line left met is;
        stays = (stays_why, why_stays);
      }

      fresh_is : (name : ValueId) → inst.result ≡ Some name → result_number inst.result ≡ name.0
      fresh_is name e = ap result_number e

    -- ---- phis

    entered_from : (p : ℕ) → (edges_of f Made b p ≡ 0 → ⊥) → reached p ≡ true
    entered_from p entered = by (reached p) refl
      where
        count : ℕ
        count = elim (slice_get f.blocks p) [ None ↦ 0 | Some c ↦ edges_from (found.left p) b 0 (targets c.term) ]

        by : (t : Bool) → reached p ≡ t → reached p ≡ true
        by true e = e
        by false e = absurd (entered (ap (λ t. if_reached t count) e))

    entry_marked : (j k : ℕ) (phi : Phi) (e : Operand × BlockId) → slice_get block.phis j ≡ Some phi → slice_get phi.entries k ≡ Some e → EntryIsMarked f found Made b phi.width e
    entry_marked j k phi e phi_at entry_at = record {
      put = λ entered. entry_put f found ground b block there j k phi e phi_at entry_at (walked e.1.0 (entered_from e.1.0 entered));
    }

    block_marked : BlockIsMarked f found Made b block
    block_marked = record {
      phis = all_at (λ (phi : Phi). AllByRecursion (EntryIsMarked f found Made b phi.width) phi.entries) block.phis
          (λ j phi phi_at. all_at (EntryIsMarked f found Made b phi.width) phi.entries (λ k e entry_at. entry_marked j k phi e phi_at entry_at));
      lines = λ i inst stands met. line_marked i inst stands met;
      fresh = λ i inst name op v stands met result narrows. record {
        fresh = λ k.
            let number = ap (λ o. elim o [ None ↦ 0 | Some x ↦ result_number x.result ]) (line_there f b block i inst there stands) ∙ fresh_is i inst stands name result in
            ap (λ n. length f.values + 3 * n + k) number;
      };
      term = λ met. term_put f found ground b block there (walked b left);
    }

  pub are_marks : AreMarks f found (made_marks f found reached used)
  are_marks = record {
    met = λ b i. refl;
    left = λ b k. refl;
    reached = is_reached;
    keeps = keeps_is f found ground reached used must must_is are_used;
    blocks = block_marked;
    added = are_added f found reached used;
    calls = λ k none a. argument_stays f ground.printable found reached k a
        (λ place r. none (record {
          b = r.b;
          i = r.i;
          block = r.block;
          inst = r.inst;
          width = r.width;
          left = record { line = r.line; reached = r.reached_block; met = r.met };
          calls = r.calls;
        }));
  }

-- ---- what a table of facts finds out

module _ (f : Function) (t : FactTable) (checked : IsChecked f) (printable : IsPrintable f) (facts : HasTypedFacts fact_type IsAnyFact f t) where
  number_stays : (place : Place) (w x : ℕ) (d : Decision) → (findings_of f t).decision place (Ty.Int w) (Operand.Literal x) ≡ d → DecisionHolds d (Val.Number x) →
      Becomes f (findings_of f t) place (Ty.Int w) (Operand.Literal x) (Operand.Literal x)
  number_stays place w x (OneNumber y) e holds =
      let same : y ≡ x = cc in
      subst (λ z. Becomes f (findings_of f t) place (Ty.Int w) (Operand.Literal x) (Operand.Literal z)) same (number (Operand.Literal x) y e)
  number_stays place w x NoNumber e holds = absurd (cc)
  number_stays place w x Undecided e holds = stays (Operand.Literal x) e tt

  number_holds : (place : Place) (w x : ℕ) → IsWidth w → x < 2 ^ w → DecisionHolds ((findings_of f t).decision place (Ty.Int w) (Operand.Literal x)) (Val.Number x)
  number_holds place w x width below = by (fact_state f t place) (state_typed f t checked printable facts place)
    where
      by : (o : Option FactState) → ForSome o (OfTypes f t checked printable facts) → DecisionHolds (decision_in o (Ty.Int w) (Operand.Literal x)) (Val.Number x)
      by None h = tt
      by (Some s) h = parts_decide (Ty.Int w) (fact_of fact_answers s (Ty.Int w) (Operand.Literal x)).parts (Val.Number x)
          (operand_typed f t checked printable facts s (Ty.Int w) (Operand.Literal x) (h s refl) width below) ((fact_laws.sound.literal w x (Val.Number x) width below).1 refl)

  poison_stays : (place : Place) (w : ℕ) → Becomes f (findings_of f t) place (Ty.Int w) Operand.Poison Operand.Poison
  poison_stays place w = by (fact_state f t place) refl
    where
      by : (o : Option FactState) → fact_state f t place ≡ o → Becomes f (findings_of f t) place (Ty.Int w) Operand.Poison Operand.Poison
      by None e = stays Operand.Poison (ap (λ o. decision_in o (Ty.Int w) Operand.Poison) e) tt
      by (Some s) e = no_number Operand.Poison (ap (λ o. decision_in o (Ty.Int w) Operand.Poison) e)

  pub is_ground : IsGround f (findings_of f t)
  is_ground = record {
    printable = printable;
    typed = checked.formed.typed;
    phis = checked.formed.phis;
    defined = checked.formed.defined;
    fits = are_fitting f t checked printable facts;
    literal = λ place w x width below. number_stays place w x ((findings_of f t).decision place (Ty.Int w) (Operand.Literal x)) refl (number_holds place w x width below);
    poison = poison_stays;
  }
