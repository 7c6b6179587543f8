use Rattle.vfa_module.proofs.OneSplit.{followed_fails}
use Rattle.vfa_module.proofs.laws.a_followed_define_fails.Goals as goal

pub returns : goal.returns
returns c = followed_fails
