use Rattle.vfa_mean.proofs.RenamedRuns.{renaming_refines, renaming_is_refined}
use Rattle.vfa_mean.proofs.numbering.renaming_refines.Goals as goal

pub returns-clause-refines : goal.returns-clause-refines
returns-clause-refines c = renaming_refines

pub returns-clause-is_refined : goal.returns-clause-is_refined
returns-clause-is_refined c = renaming_is_refined
