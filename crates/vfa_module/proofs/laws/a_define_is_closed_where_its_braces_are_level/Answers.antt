use Rattle.vfa_module.proofs.Levels.{closes_exactly}
use Rattle.vfa_module.proofs.laws.a_define_is_closed_where_its_braces_are_level.Goals as goal

pub returns : goal.returns
returns c = closes_exactly
