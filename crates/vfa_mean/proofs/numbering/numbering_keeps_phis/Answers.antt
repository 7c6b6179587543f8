use Rattle.vfa_mean.proofs.RenamedFlow.{phis_fit}
use Rattle.vfa_mean.proofs.numbering.numbering_keeps_phis.Goals as goal

pub returns : goal.returns
returns c = phis_fit
