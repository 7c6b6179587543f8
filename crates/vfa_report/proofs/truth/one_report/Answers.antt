use Rattle.std.proofs.Common.{◌≡◌, ◌∙◌, sym, ap}
use Rattle.vfa_xfer.specs.Transfers.{fact_answers}
use Rattle.vfa_walk.proofs.TruthTables.{one_table_of}
use Rattle.vfa_report.specs.Report.{report_text}
use Rattle.vfa_report.proofs.truth.one_report.Goals as goal

pub returns : goal.returns
returns c f s t first second =
    let each = one_table_of fact_answers f first.table second.table first.is_table second.is_table in
    let same : first.table ≡ second.table = λ i b. each b i in
    first.is ∙ (ap (report_text f) same ∙ sym second.is)
