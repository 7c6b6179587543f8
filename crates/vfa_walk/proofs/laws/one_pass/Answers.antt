use Rattle.vfa_walk.proofs.PassEquations.{pass_is_pass, one_pass as only_pass}
use Rattle.vfa_walk.proofs.laws.one_pass.Goals as goal

pub returns-clause-meets : goal.returns-clause-meets
returns-clause-meets g c = pass_is_pass

pub returns-clause-one : goal.returns-clause-one
returns-clause-one g c = only_pass
