use Rattle.vfa_check.proofs.OneRefusal.{refused_is_ill_formed}
use Rattle.vfa_check.proofs.laws.refused_is_ill_formed.Goals as goal

pub returns : goal.returns
returns c = refused_is_ill_formed
