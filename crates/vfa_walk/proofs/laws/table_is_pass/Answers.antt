use Rattle.vfa_walk.proofs.RoundsEnd.{table_is_pass as law}
use Rattle.vfa_walk.proofs.laws.table_is_pass.Goals as goal

pub returns : goal.returns
returns g c = law
