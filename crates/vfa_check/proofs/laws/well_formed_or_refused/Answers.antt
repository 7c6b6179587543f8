use Rattle.vfa_check.proofs.Judged.{well_formed_or_refused}
use Rattle.vfa_check.proofs.laws.well_formed_or_refused.Goals as goal

pub returns : goal.returns
returns c = well_formed_or_refused
