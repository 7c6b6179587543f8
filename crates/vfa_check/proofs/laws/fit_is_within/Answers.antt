use Rattle.vfa_check.proofs.WithinFit.{fit_is_within}
use Rattle.vfa_check.proofs.laws.fit_is_within.Goals as goal

pub returns : goal.returns
returns c = fit_is_within
