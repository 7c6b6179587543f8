use Rattle.vfa_walk.proofs.RoundsEnd.{one_table as law}
use Rattle.vfa_walk.proofs.laws.one_table.Goals as goal

pub returns : goal.returns
returns g c = law
