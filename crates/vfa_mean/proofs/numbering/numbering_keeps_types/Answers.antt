use Rattle.vfa_mean.proofs.RenamedTypes.{numbered_typed}
use Rattle.vfa_mean.proofs.numbering.numbering_keeps_types.Goals as goal

pub returns : goal.returns
returns c = numbered_typed
