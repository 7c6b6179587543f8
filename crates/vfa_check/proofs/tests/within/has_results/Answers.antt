use Rattle.vfa_check.proofs.TestedWithin.{all_ids, more_ids}
use Rattle.vfa_check.proofs.tests.within.has_results.Goals as goal

pub insts-preserved : goal.insts-preserved
insts-preserved c =
    more_ids c.args.count c.args.insts.now c.insts.inst-index _ c.insts-test.true c.insts.invariant
    (c.has_result.ensures c.if-not-has_result.false)

pub returns : goal.returns
returns c = λ _. all_ids c.args.count c.args.insts.now c.insts.inst-index c.insts-test.false c.insts.invariant
