use Rattle.vfa_mean.proofs.SomeOutcome.{has_outcome}
use Rattle.vfa_mean.proofs.laws.functions_have_outcomes.Goals as goal

pub returns : goal.returns
returns c = has_outcome
