use Rattle.vfa_check.proofs.Adding.{more_insts_at, inst_at_in_range}
use Rattle.vfa_check.proofs.results.add_insts.Goals as goal

pub add_result-requires-clause-names : goal.add_result-requires-clause-names
add_result-requires-clause-names c =
    inst_at_in_range c.args.insts.now c.insts.inst-index _ _ c.args.row.now c.insts.row c.insts-test.true c.requires.row c.insts.invariant
    c.requires.names

pub insts-preserved : goal.insts-preserved
insts-preserved c =
    more_insts_at c.args.insts.now c.insts.inst-index _ c.args.row.now c.insts.row c.add_result.new.row c.insts-test.true c.insts.invariant
    c.add_result.ensures.row c.add_result.ensures.added
