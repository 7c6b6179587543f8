use Rattle.vfa_walk.proofs.RoundsEnd.{still_gives_table as law}
use Rattle.vfa_walk.proofs.laws.still_round_gives_table.Goals as goal

pub returns : goal.returns
returns g c = law
