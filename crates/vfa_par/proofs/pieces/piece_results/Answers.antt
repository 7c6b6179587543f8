use Rattle.vfa_par.proofs.InOrder.{results_more}
use Rattle.vfa_par.proofs.pieces.piece_results.Goals as goal

pub inputs-preserved : goal.inputs-preserved
inputs-preserved g c =
    results_more (g.K.Work.is_result c.args.work.now) c.args.inputs.now c.inputs.all.items c.push.new.self.items c.inputs.input-index c.input-item.result
    c.in_ok-result.result c.inputs-test.true c.input-item.is c.in_ok-push.ensures.items c.inputs.invariant c.in_ok-result.ensures
