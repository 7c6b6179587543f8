use Rattle.vfa_check.proofs.TestedWithin.{switch_below}
use Rattle.vfa_check.proofs.tests.within.has_targets.Goals as goal

pub returns-else-not-is_below-2-clause-below : goal.returns-else-not-is_below-2-clause-below
returns-else-not-is_below-2-clause-below c = λ t.
    rw c.in-Switch.is
    (switch_below c.args.count c.in-Switch.other c.in-Switch.cases c.as_slice.result.now
    (c.is_below-in-Switch.ensures c.if-not-is_below-2.false) c.as_slice.ensures (c.has_cases.ensures.below t))
