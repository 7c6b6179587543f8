use Rattle.std.proofs.Common.{◌∙◌, arith, map}
use Rattle.std.proofs.lemmas.List.{map-append}
use Rattle.vfa_report.proofs.FirstUses.{marks_more, marks_all}
use Rattle.vfa_report.proofs.uses.Uses.mark_phis.Goals as goal

pub phis-preserved : goal.phis-preserved
phis-preserved c = (
  marks_more (map (λ p. p.result.0)) (map-append (λ p. p.result.0)) c.args.phis.now c.phis.phi-index c.phi-item.result _ _ _ c.phis-test.true c.phi-item.is c.phis.invariant.0 c.in_ok-mark.ensures.marks,
  c.in_ok-mark.ensures.names ∙ c.phis.invariant.1,
)

pub returns-clause-marks : goal.returns-clause-marks
returns-clause-marks c = marks_all (map (λ p. p.result.0)) c.args.phis.now c.phis.phi-index _ _ (omega arith) c.phis.invariant.0

pub returns-clause-names : goal.returns-clause-names
returns-clause-names c = c.phis.invariant.1
