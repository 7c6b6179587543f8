use Rattle.vfa_demand.proofs.UsableNames.{usable_uses}
use Rattle.vfa_demand.proofs.tests.uses_its_values.Goals as goal

pub returns : goal.returns
returns c = λ is. usable_uses c.args.f.now (c.is_usable_function.ensures is)
