use Rattle.vfa.proofs.EachInput.{module_or_refused}
use Rattle.vfa.proofs.laws.module_or_refusal.Goals as goal

pub returns : goal.returns
returns c = λ command input. module_or_refused command input c.module_or_refusal.ensures
