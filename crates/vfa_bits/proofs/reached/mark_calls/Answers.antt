use Rattle.vfa_bits.proofs.Marking.{calls_marked}
use Rattle.vfa_bits.proofs.reached.mark_calls.Goals as goal

pub each-preserved : goal.each-preserved
each-preserved c = calls_marked c.args.insts.now c.each.inst-index _ _ _ _ c.each-test.true c.each.invariant c.mark_call.ensures
