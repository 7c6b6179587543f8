use Rattle.vfa_opt.proofs.EachJob.{done_not_refused, one_refusal_of}
use Rattle.vfa_opt.proofs.laws.one_refusal.Goals as goal

pub returns-clause-one : goal.returns-clause-one
returns-clause-one c job strict input = one_refusal_of c.one_list_of_pieces.ensures strict input job

pub returns-clause-none : goal.returns-clause-none
returns-clause-none c job strict input pieces reason = done_not_refused c.one_list_of_pieces.ensures strict input job pieces reason
