use Rattle.vfa_walk.proofs.Steps.{insts_more}
use Rattle.vfa_walk.proofs.stepping.step_all.Goals as goal

pub insts-preserved : goal.insts-preserved
insts-preserved g c = record {
  rest = insts_more g.V.Values.answers c.args.f.now c.args.insts.now c.insts.inst-index _ _ _ _ c.insts-test.true c.insts.invariant.rest
      (rw c.if-not-step.false at c.step.ensures.becomes);
  state = c.step.ensures.state c.if-not-step.false;
}
