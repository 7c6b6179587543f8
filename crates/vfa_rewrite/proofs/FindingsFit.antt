-- What a table of facts and the rules find out fits, whether or not the table is true.
use Rattle.std.proofs.Common.{◌≡◌, ℕ, zero, suc, true, Option, Some, None, List, [], ◌∷◌, take, is_some, slice_get, refl}
use Rattle.vfa_ir.specs.declared.functions.Function.{Function}
use Rattle.vfa_ir.specs.declared.functions.Inst.{Inst}
use Rattle.vfa_ir.specs.Defined.{line_count}
use Rattle.vfa_ir.specs.Printable.{IsPrintable}
use Rattle.vfa_mean.specs.Moments.{At}
use Rattle.vfa_cfg.specs.declared.listing.Edge.{Edge}
use Rattle.vfa_check.specs.Checked.{IsChecked}
use Rattle.vfa_cond.specs.Narrowing.{and_then}
use Rattle.vfa_walk.specs.Leaving.{edges_out}
use Rattle.vfa_walk.specs.Passes.{followed}
use Rattle.vfa_walk.specs.Stepping.{insts_of, after_inst, after_insts, before_line}
use Rattle.vfa_walk.specs.TruthLaws.{HasTypedFacts}
use Rattle.vfa_xfer.specs.AnyFacts.{IsAnyFact, fact_type}
use Rattle.vfa_xfer.specs.Transfers.{fact_answers}
use Rattle.vfa_rewrite.specs.ByFacts.{FactState, FactTable, fact_state, edge_state, findings_of}
use Rattle.vfa_rewrite.specs.Findings.{AreFitting}
use Rattle.vfa_rewrite.proofs.ChangePrints.{changes_print}
use Rattle.vfa_rewrite.proofs.FactChanges.{changes_fit}
use Rattle.vfa_rewrite.proofs.FactDecisions.{decisions_of_type, calls_are_kept}

module _ (f : Function) where
  -- where a state comes behind the first instructions, one comes behind fewer of them
  shorter : (insts : List Inst) (i : ℕ) (s : FactState) → is_some (after_insts fact_answers f (take (suc i) insts) s) ≡ true →
      is_some (after_insts fact_answers f (take i insts) s) ≡ true
  shorter insts zero s h = refl
  shorter [] (suc i) s h = refl
  shorter (inst ∷ insts) (suc i) s h = by (after_inst fact_answers f inst s) h (shorter insts i)
    where
      by : (o : Option FactState) → is_some (and_then o (after_insts fact_answers f (take (suc i) insts))) ≡ true →
          ((next : FactState) → is_some (after_insts fact_answers f (take (suc i) insts) next) ≡ true → is_some (after_insts fact_answers f (take i insts) next) ≡ true) →
          is_some (and_then o (after_insts fact_answers f (take i insts))) ≡ true
      by None h again = h
      by (Some next) h again = again next h

  met_before : (t : FactTable) (b i : ℕ) → (findings_of f t).met b (suc i) ≡ true → (findings_of f t).met b i ≡ true
  met_before t b i h = by (t b) h
    where
      by : (o : Option FactState) → is_some (followed (before_line fact_answers f b (suc i)) o) ≡ true → is_some (followed (before_line fact_answers f b i) o) ≡ true
      by None h = h
      by (Some s) h = shorter (insts_of f b) i s h

  behind_some : (end : Option FactState) (e : Option Edge) → is_some (edge_state f end e) ≡ true → is_some end ≡ true
  behind_some end None h = absurd (cc)
  behind_some None (Some e) h = h
  behind_some (Some s) (Some e) h = refl

  pub are_fitting : (t : FactTable) → IsChecked f → IsPrintable f → HasTypedFacts fact_type IsAnyFact f t → AreFitting f (findings_of f t)
  are_fitting t checked printable facts = record {
    of_type = decisions_of_type f t checked printable facts;
    change = changes_fit f t checked printable facts;
    prints = changes_print f printable checked.formed.typed t;
    call = calls_are_kept f t checked printable facts;
    met_before = λ b i below h. met_before t b i h;
    left_behind = λ b k h. behind_some (fact_state f t (At b (line_count f b))) (slice_get (edges_out f b) k) h;
  }
