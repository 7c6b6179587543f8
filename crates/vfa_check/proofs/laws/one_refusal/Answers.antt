use Rattle.vfa_check.proofs.OneRefusal.{one_refusal}
use Rattle.vfa_check.proofs.laws.one_refusal.Goals as goal

pub returns : goal.returns
returns c = one_refusal
