use Rattle.std.proofs.Common.{◌≡◌, ◌∙◌, All, refl, subst, sym, true}
use Rattle.std.proofs.lemmas.List.{take_all}
use Rattle.vfa_ir.specs.declared.functions.Phi.{Phi}
use Rattle.vfa_check.specs.Predecessors.{FitsPredecessors}
use Rattle.vfa_check.proofs.EachStep.{all_step}
use Rattle.vfa_check.proofs.phis.all_fit.Goals as goal

pub returns-then-not-fits-clause-fit : goal.returns-then-not-fits-clause-fit
returns-then-not-fits-clause-fit c = (
  λ h. absurd (cc),
  λ all.
      let P : Phi → Type 0 = λ p. FitsPredecessors c.args.predecessors.now p.entries in
      let here : P c.phi-item.result = subst P (sym c.phi-item.is) (all c.phis.phi-index c.phi-item.result c.phis-test.true) in
      let yes : c.fits.result ≡ true = c.fits.ensures.fits.1 (subst (FitsPredecessors c.args.predecessors.now) (sym c.as_slice.ensures) here) in
      absurd (cc),
)

pub phis-preserved : goal.phis-preserved
phis-preserved c = record {
  each = c.fits.ensures.each ∙ c.phis.invariant.each;
  clear = c.if-not-fits.ensures.clear refl;
  fit = all_step (λ (p : Phi). FitsPredecessors c.args.predecessors.now p.entries) c.args.phis.now c.args.phis.now c.phis.phi-index c.phi-item.result
      refl c.phis-test.true c.phi-item.is c.phis.invariant.fit
      (subst (FitsPredecessors c.args.predecessors.now) c.as_slice.ensures (c.if-not-fits.ensures.fits.0 refl));
}

pub returns-clause-fit : goal.returns-clause-fit
returns-clause-fit c = (
  λ _. subst (All (λ (p : Phi). FitsPredecessors c.args.predecessors.now p.entries)) (take_all c.phis.phi-index c.args.phis.now c.phis-test.false) c.phis.invariant.fit,
  λ _. refl,
)
