use Rattle.vfa_module.proofs.OneSplit.{unclosed_fails}
use Rattle.vfa_module.proofs.laws.an_unclosed_define_fails.Goals as goal

pub returns : goal.returns
returns c = unclosed_fails
