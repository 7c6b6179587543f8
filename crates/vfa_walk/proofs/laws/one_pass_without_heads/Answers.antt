use Rattle.vfa_walk.proofs.RoundsEnd.{one_pass_gives_table as law}
use Rattle.vfa_walk.proofs.laws.one_pass_without_heads.Goals as goal

pub returns : goal.returns
returns g c = law
