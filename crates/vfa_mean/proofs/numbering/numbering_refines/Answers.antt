use Rattle.vfa_mean.proofs.KeptParts.{numbering_refines, numbering_is_refined}
use Rattle.vfa_mean.proofs.numbering.numbering_refines.Goals as goal

pub returns-clause-refines : goal.returns-clause-refines
returns-clause-refines c = numbering_refines

pub returns-clause-is_refined : goal.returns-clause-is_refined
returns-clause-is_refined c = numbering_is_refined
