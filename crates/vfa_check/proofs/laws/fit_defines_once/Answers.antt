use Rattle.vfa_check.proofs.IdsInOrder.{fit_ids, fit_once}
use Rattle.vfa_check.proofs.laws.fit_defines_once.Goals as goal

pub returns-clause-once : goal.returns-clause-once
returns-clause-once c = fit_once

pub returns-clause-in_order : goal.returns-clause-in_order
returns-clause-in_order c = fit_ids
