use Rattle.vfa_check.proofs.TestedWithin.{block_ids_below}
use Rattle.vfa_check.proofs.tests.within.has_block.Goals as goal

pub returns-clause-names : goal.returns-clause-names
returns-clause-names c = λ _.
    block_ids_below c.args.names c.args.block.now c.as_slice.result.now c.as_slice-2.result.now c.as_slice.ensures c.as_slice-2.ensures
    (c.has_phis.ensures c.if-not-has_phis.false)
    (c.has_results.ensures c.if-not-has_results.false)
