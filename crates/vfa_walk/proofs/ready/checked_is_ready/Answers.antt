use Rattle.vfa_walk.proofs.Readied.{function_ready, few_names}
use Rattle.vfa_walk.proofs.ready.checked_is_ready.Goals as goal

pub returns-clause-ready : goal.returns-clause-ready
returns-clause-ready c = function_ready

pub returns-clause-few : goal.returns-clause-few
returns-clause-few c = few_names
