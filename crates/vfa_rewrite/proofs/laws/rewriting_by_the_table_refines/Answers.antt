use Rattle.vfa_walk.proofs.TruthTables.{table_is_true, table_is_typed}
use Rattle.vfa_xfer.specs.AnyFacts.{HoldsOf, IsAnyFact, fact_type}
use Rattle.vfa_xfer.specs.TransferLaws.{fact_laws}
use Rattle.vfa_xfer.specs.Transfers.{fact_answers}
use Rattle.vfa_rewrite.specs.ByFacts.{findings_of}
use Rattle.vfa_rewrite.proofs.FactChanges.{changes_hold}
use Rattle.vfa_rewrite.proofs.FactDecisions.{are_true}
use Rattle.vfa_rewrite.proofs.KeptNames.{are_sound}
use Rattle.vfa_rewrite.proofs.Lockstep.{refines}
use Rattle.vfa_rewrite.proofs.laws.rewriting_by_the_table_refines.Goals as goal

pub returns : goal.returns
returns c f t m checked printable is marks =
    let typed = checked.formed.typed in
    let defined = checked.formed.defined in
    let facts = table_is_typed HoldsOf fact_type IsAnyFact fact_answers fact_laws.typed fact_laws.sound f checked.once printable typed defined t is in
    let is_true = table_is_true HoldsOf fact_type IsAnyFact fact_answers fact_laws.typed fact_laws.sound f checked.once printable typed defined checked.formed.phis t is in
    let holds = are_true f t checked printable facts is_true (changes_hold f t checked printable facts is_true) in
    refines f m (are_sound f printable typed defined (findings_of f t) holds m marks)
