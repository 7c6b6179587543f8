use Rattle.vfa_xfer.specs.AnyFacts.{HoldsOf, fact_type, IsAnyFact}
use Rattle.vfa_xfer.specs.Transfers.{fact_answers}
use Rattle.vfa_xfer.specs.TransferLaws.{fact_laws}
use Rattle.vfa_walk.proofs.TruthTables.{table_is_true, table_is_typed, places_are_true}
use Rattle.vfa_report.proofs.ReportTrue.{report_holds}
use Rattle.vfa_report.proofs.truth.reports_hold.Goals as goal

pub returns : goal.returns
returns c f checked printable t table =
    let formed = checked.formed in
    let is_true = table_is_true HoldsOf fact_type IsAnyFact fact_answers fact_laws.typed fact_laws.sound f checked.once printable formed.typed formed.defined formed.phis t table in
    let typed = table_is_typed HoldsOf fact_type IsAnyFact fact_answers fact_laws.typed fact_laws.sound f checked.once printable formed.typed formed.defined t table in
    report_holds f t is_true
    (places_are_true HoldsOf fact_type IsAnyFact fact_answers fact_laws.typed fact_laws.sound f checked.once printable formed.typed formed.defined t typed is_true formed.phis)
