use Rattle.vfa.proofs.EachInput.{one_refused, module_not_refused}
use Rattle.vfa.proofs.laws.one_refusal.Goals as goal

pub returns-clause-one : goal.returns-clause-one
returns-clause-one c = one_refused c.one_refusal.ensures.one

pub returns-clause-none : goal.returns-clause-none
returns-clause-none c = module_not_refused c.one_refusal.ensures.none
