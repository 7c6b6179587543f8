use Rattle.vfa_report.proofs.BestLines.{report_best}
use Rattle.vfa_report.proofs.truth.bits_are_best.Goals as goal

pub returns : goal.returns
returns c = report_best
