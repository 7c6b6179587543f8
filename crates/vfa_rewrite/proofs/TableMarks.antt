-- What a table leaves of a function, and its numbering.
use Rattle.std.proofs.Common.{◌≡◌, ◌≤◌, ◌^◌, ℕ, Bool, length, sym, ap, ◌∙◌, subst, arith}
use Rattle.vfa_ir.specs.declared.functions.Function.{Function}
use Rattle.vfa_ir.specs.Printable.{IsPrintable}
use Rattle.vfa_check.specs.Checked.{IsChecked}
use Rattle.vfa_demand.specs.Used.{UsesItsValues}
use Rattle.vfa_mean.specs.Numbering.{numbered, MayBeNumbered, DefinesKeptOnce}
use Rattle.vfa_walk.specs.TruthLaws.{HasTypedFacts}
use Rattle.vfa_xfer.specs.AnyFacts.{IsAnyFact, fact_type}
use Rattle.vfa_rewrite.specs.ByFacts.{FactTable, findings_of}
use Rattle.vfa_rewrite.specs.Making.{first_marks}
use Rattle.vfa_rewrite.specs.Marks.{AreMarks}
use Rattle.vfa_rewrite.specs.Rewriting.{IsRewritten}
use Rattle.vfa_rewrite.specs.Rewritten.{Marks, rewritten}
use Rattle.vfa_rewrite.proofs.CheckedLeft.{may_be_numbered, defines_once}
use Rattle.vfa_rewrite.proofs.FindingsFit.{are_fitting}
use Rattle.vfa_rewrite.proofs.FirstUses.{uses_its_values}
use Rattle.vfa_rewrite.proofs.LeftLines.{Known}
use Rattle.vfa_rewrite.proofs.TargetsLeft.{blocks_count}

module _ (f : Function) (t : FactTable) (checked : IsChecked f) (printable : IsPrintable f) (facts : HasTypedFacts fact_type IsAnyFact f t) where
  -- the first step uses names of its values
  pub first_step_uses : (reached : ℕ → Bool) → UsesItsValues (rewritten f (first_marks f (findings_of f t) reached))
  first_step_uses reached = uses_its_values f printable checked.formed.defined (findings_of f t) (are_fitting f t checked printable facts) reached

  module _ (m : Marks) (are : AreMarks f (findings_of f t) m) (g : Function) (left : g ≡ rewritten f m) (reached : ℕ → Bool) (blocks : m.reached ≡ reached) where
    known : Known f (findings_of f t) m
    known = record {
      printable = printable;
      typed = checked.formed.typed;
      phis = checked.formed.phis;
      defined = checked.formed.defined;
      fits = are_fitting f t checked printable facts;
      marks = are;
    }

    pub left_may_be_numbered : MayBeNumbered g reached
    left_may_be_numbered =
        subst (λ h. MayBeNumbered h reached) (sym left) (subst (MayBeNumbered (rewritten f m)) blocks (may_be_numbered f (findings_of f t) m known checked.within))

    pub left_defines_once : DefinesKeptOnce g reached
    left_defines_once =
        subst (λ h. DefinesKeptOnce h reached) (sym left) (subst (DefinesKeptOnce (rewritten f m)) blocks (defines_once f (findings_of f t) m known checked.within))

    pub left_has_few : length g.blocks ≤ 2 ^ 32
    left_has_few =
        let same : length g.blocks ≡ length f.blocks = ap (λ (h : Function). length h.blocks) left ∙ blocks_count f m in
        let few = checked.small.few.blocks in
        omega (arith, same, few)

    pub left_is_rewritten : (made : Function) → made ≡ numbered g reached → IsRewritten f t made
    left_is_rewritten made is = record { marks = m; are_marks = are; is = is ∙ (λ i. numbered (left i) (sym blocks i)) }
