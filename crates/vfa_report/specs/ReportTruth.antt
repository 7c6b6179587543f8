-- What the lines of a report say of runs.
use Rattle.std.specs.Prelude.{ℕ, ◌<◌, ⊤, All}
use Rattle.vfa_ir.specs.declared.functions.Function.{Function}
use Rattle.vfa_mean.specs.Moments.{Place, At, Moment}
use Rattle.vfa_mean.specs.Values.{Env}
use Rattle.vfa_xfer.specs.AnyFacts.{PartsHold}
use Rattle.vfa_xfer.specs.declared.any_fact.AnyFact.{AnyFact}
use Rattle.vfa_xfer.specs.Transfers.{fact_answers}
use Rattle.vfa_walk.specs.Tables.{States, IsTableOf}
use Rattle.vfa_report.specs.Report.{Known, ReportLine, report_lines}

-- whenever a run comes to the place, what is shown holds of the value that the name has there
abbrev pub KnownHolds : Function → Known → Type 0
KnownHolds f k = (env : Env) → Moment f k.place env → PartsHold k.parts (env k.name)

-- no run comes to the place
abbrev pub IsNeverMet : Function → Place → Type 0
IsNeverMet f place = (env : Env) → Moment f place env → ⊥

abbrev pub LineHolds : Function → ReportLine → Type 0
LineHolds f ReportLine.function = ⊤
LineHolds f (ReportLine.parameter k) = KnownHolds f k
LineHolds f (ReportLine.block b) = ⊤
LineHolds f (ReportLine.never_reached b) = (i : ℕ) → IsNeverMet f (At b i)
LineHolds f (ReportLine.used k) = KnownHolds f k
LineHolds f (ReportLine.defined k) = KnownHolds f k
LineHolds f (ReportLine.never_past b i) = (later : ℕ) → i < later → IsNeverMet f (At b later)

-- each line of the report by the table of a function holds of its runs
abbrev pub ReportHolds : Function → Type 0
ReportHolds f = (t : States AnyFact) → IsTableOf fact_answers f t → All (LineHolds f) (report_lines f t)
