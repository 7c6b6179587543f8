use Rattle.vfa_read.proofs.NameLaws.{distinct_names}
use Rattle.vfa_read.proofs.definedness.defined_once.Goals as goal

pub returns : goal.returns
returns c = distinct_names
