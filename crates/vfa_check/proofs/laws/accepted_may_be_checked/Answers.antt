use Rattle.vfa_check.proofs.Accepted.{accepted_may_be_checked}
use Rattle.vfa_check.proofs.laws.accepted_may_be_checked.Goals as goal

pub returns : goal.returns
returns c = accepted_may_be_checked
