-- What is claimed of the texts that stand for accepted functions.
use Rattle.std.specs.Prelude.{◌≡◌, ⊤, ℕ, List, All, Some}
use Rattle.vfa_ir.specs.declared.functions.Function.{Function}
use Rattle.vfa_ir.specs.declared.functions.Lines.{Lines}
use Rattle.vfa_ir.specs.Reads.{Reads}
use Rattle.vfa_mean.specs.Refines.{Refines}
use Rattle.vfa_xfer.specs.declared.any_fact.AnyFact.{AnyFact}
use Rattle.vfa_xfer.specs.Transfers.{fact_answers}
use Rattle.vfa_walk.specs.Tables.{States, IsTableOf}
use Rattle.vfa_rewrite.specs.PrintedNumbers.{PrintsNumbers}
use Rattle.vfa_report.specs.Report.{IsReport, report_lines}
use Rattle.vfa_report.specs.BestBits.{LineIsBest}
use Rattle.vfa_report.specs.ReportTruth.{LineHolds}
use Rattle.vfa_opt.specs.declared.jobs.Job.{Job}
use Rattle.vfa_opt.specs.declared.questions.Question.{Question}
use Rattle.vfa_opt.specs.declared.writings.Writing.{Writing}
use Rattle.vfa_opt.specs.Asked.{IsAnswerText, IsTrueAnswer}
use Rattle.vfa_opt.specs.Module.{Piece, copied, accepted, carried, IsFunctionText, function_named}

-- A text that reads as a function which refines this one: for all arguments, all answers of the functions that it calls, and any number
-- of entered blocks it has only outcomes that this one allows. And each operand of this one that the table knows to be one number is
-- printed as that number, wherever its line is still printed.
pub record IsRefinement (f : Function) (text : List ℕ) : Type 0 where
  pub function : Function
  pub lines : Lines
  pub reads : Reads text function lines
  pub refines : Refines f function
  pub numbers : (t : States AnyFact) → IsTableOf fact_answers f t → PrintsNumbers f t function

-- The text is the report by the function's table, and each of its lines holds of the function's runs: whenever a run comes to the
-- line's place, what the line shows of a name is so, and no run comes to a place that is said never to be reached or passed. Of the
-- result of an `and`, `or`, `xor`, `add` or `sub` no bit is shown as unknown that the known bits of the operands decide.
pub record IsTrueReport (f : Function) (text : List ℕ) : Type 0 where
  pub report : IsReport f text
  pub holds : All (LineHolds f) (report_lines f report.table)
  pub best : All (LineIsBest f report.table) (report_lines f report.table)

-- what is claimed of the text that is written for a function
abbrev pub IsSound : Writing → Function → List ℕ → Type 0
IsSound Writing.Optimised f text = IsRefinement f text
IsSound Writing.Reports f text = IsTrueReport f text
IsSound Writing.Nothing f text = ⊤

-- what is written for an accepted function is sound
abbrev pub IsSoundPiece : Writing → Piece → Type 0
IsSoundPiece writing (copied _) = ⊤
IsSoundPiece writing (accepted f) = (text : List ℕ) → IsFunctionText writing f text → IsSound writing f text
IsSoundPiece writing (carried _ _) = ⊤

-- each answer to a question about the pieces of a module is true
abbrev pub IsSoundAnswer : Question → List Piece → Type 0
IsSoundAnswer question pieces =
    (f : Function) → function_named question.function pieces ≡ Some f → (text : List ℕ) → IsAnswerText f question text → IsTrueAnswer f question text

-- what a job makes of the pieces of a module is sound; a run on itself optimises them
abbrev pub IsSoundFor : Job → List Piece → Type 0
IsSoundFor Job.Opt pieces = All (IsSoundPiece Writing.Optimised) pieces
IsSoundFor Job.Facts pieces = All (IsSoundPiece Writing.Reports) pieces
IsSoundFor (Job.Ask question) pieces = IsSoundAnswer question pieces
IsSoundFor (Job.SelfRun seed) pieces = All (IsSoundPiece Writing.Optimised) pieces
