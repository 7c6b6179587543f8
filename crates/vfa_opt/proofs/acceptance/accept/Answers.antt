use Rattle.vfa_opt.proofs.Acceptances.{accepts_so, refuses_so}
use Rattle.vfa_opt.proofs.acceptance.accept.Goals as goal

pub returns-clause-accepts : goal.returns-clause-accepts
returns-clause-accepts c =
    accepts_so c.args.text.now (c.one_answer.ensures.function c.args.text.now) (c.one_answer.ensures.reason c.args.text.now)
    (c.one_answer.ensures.either c.args.text.now) c.checked.result c.checked.ensures.inside c.checked.ensures.outside

pub returns-clause-refuses : goal.returns-clause-refuses
returns-clause-refuses c =
    refuses_so c.args.text.now (c.one_answer.ensures.function c.args.text.now) (c.one_answer.ensures.reason c.args.text.now)
    (c.one_answer.ensures.either c.args.text.now) c.checked.result c.checked.ensures.inside c.checked.ensures.outside
