use Rattle.vfa_cond.specs.States.{known}
use Rattle.vfa_walk.proofs.Edges.{phis_more}
use Rattle.vfa_walk.proofs.leaving.assign.Goals as goal

pub phis-preserved : goal.phis-preserved
phis-preserved g c = record {
  rest = phis_more g.V.Values.answers c.args.f.now c.args.from.0 (known c.args.before.now) c.args.phis.now c.phis.phi-index c.phi-item.result
      (known c.args.state.now) (known c.phis.state) (known c.redefine.new.state) c.phi_fact-fact.result c.phis-test.true c.phi-item.is c.phis.invariant.rest
      c.phi_fact-fact.ensures.fact c.redefine.ensures.change;
  state = c.redefine.ensures.state;
}
