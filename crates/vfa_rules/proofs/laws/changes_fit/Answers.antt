use Rattle.vfa_rules.proofs.Fitting.{changed_fits}
use Rattle.vfa_rules.proofs.laws.changes_fit.Goals as goal

pub returns : goal.returns
returns c f k op fits = changed_fits f k op fits
