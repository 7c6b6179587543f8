use Rattle.vfa_mean.proofs.RenamedNames.{names_defined}
use Rattle.vfa_mean.proofs.numbering.numbering_keeps_definitions.Goals as goal

pub returns : goal.returns
returns c = names_defined
