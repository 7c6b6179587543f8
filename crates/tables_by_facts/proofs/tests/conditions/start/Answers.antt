use Rattle.vfa_cond.proofs.Fitting.{some_of}
use Rattle.tables_by_facts.proofs.tests.conditions.start.Goals as goal

pub returns : goal.returns
returns g c = some_of _ _ c.make.ensures
