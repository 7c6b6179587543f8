use Rattle.vfa_read.proofs.NameLaws.{repeated_names}
use Rattle.vfa_read.proofs.definedness.first_defined_again.Goals as goal

pub returns : goal.returns
returns c = repeated_names
