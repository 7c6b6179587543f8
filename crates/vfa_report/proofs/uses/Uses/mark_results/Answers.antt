use Rattle.std.proofs.Common.{◌∙◌, arith}
use Rattle.std.proofs.lemmas.List.Elements.{filter_map-append}
use Rattle.vfa_ir.specs.Printable.{inst_ids}
use Rattle.vfa_report.proofs.FirstUses.{marks_more_at, marks_all}
use Rattle.vfa_report.proofs.uses.Uses.mark_results.Goals as goal

pub insts-preserved : goal.insts-preserved
insts-preserved c = (
  marks_more_at inst_ids (filter_map-append _) c.args.insts.now c.insts.inst-index _ _ _ _ c.insts-test.true c.insts.invariant.0 c.in_ok-mark_result.ensures.marks,
  c.in_ok-mark_result.ensures.names ∙ c.insts.invariant.1,
)

pub returns-clause-marks : goal.returns-clause-marks
returns-clause-marks c = marks_all inst_ids c.args.insts.now c.insts.inst-index _ _ (omega arith) c.insts.invariant.0

pub returns-clause-names : goal.returns-clause-names
returns-clause-names c = c.insts.invariant.1
