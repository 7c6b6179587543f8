use Rattle.vfa_module.proofs.OneSplit.{one_split}
use Rattle.vfa_module.proofs.laws.a_text_is_one_split.Goals as goal

pub returns : goal.returns
returns c = one_split
