use Rattle.vfa_report.proofs.ReportReads.{report_same}
use Rattle.vfa_report.proofs.truth.reports_are_one_by_read_names.Goals as goal

pub returns : goal.returns
returns c f t u agree = report_same f t u agree
