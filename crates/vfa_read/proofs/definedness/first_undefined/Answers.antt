use Rattle.vfa_read.proofs.NameLaws.{use_undefined}
use Rattle.vfa_read.proofs.definedness.first_undefined.Goals as goal

pub returns : goal.returns
returns c = use_undefined
