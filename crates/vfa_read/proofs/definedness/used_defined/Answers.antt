use Rattle.vfa_read.proofs.NameLaws.{uses_defined}
use Rattle.vfa_read.proofs.definedness.used_defined.Goals as goal

pub returns : goal.returns
returns c = uses_defined
