use Rattle.vfa_opt.proofs.EachInput.{module_or_refused}
use Rattle.vfa_opt.proofs.EachJob.{done_or_refused}
use Rattle.vfa_opt.proofs.laws.module_or_refusal.Goals as goal

pub returns : goal.returns
returns c job strict input = done_or_refused strict input job (module_or_refused c.inside_or_outside.ensures strict input)
