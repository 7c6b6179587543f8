use Rattle.vfa_opt.proofs.Acceptances.{one_function, one_why, not_both}
use Rattle.vfa_opt.proofs.acceptance.one_answer.Goals as goal

pub returns-clause-function : goal.returns-clause-function
returns-clause-function c =
    one_function c.one_reading.ensures c.one_reason.ensures c.accepted_has_no_reason.ensures c.one_refusal.ensures c.refused_is_ill_formed.ensures

pub returns-clause-reason : goal.returns-clause-reason
returns-clause-reason c =
    one_why c.one_reading.ensures c.one_reason.ensures c.accepted_has_no_reason.ensures c.one_refusal.ensures c.refused_is_ill_formed.ensures

pub returns-clause-either : goal.returns-clause-either
returns-clause-either c =
    not_both c.one_reading.ensures c.one_reason.ensures c.accepted_has_no_reason.ensures c.one_refusal.ensures c.refused_is_ill_formed.ensures
