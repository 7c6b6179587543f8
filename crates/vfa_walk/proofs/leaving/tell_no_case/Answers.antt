use Rattle.vfa_walk.proofs.Edges.{cases_more}
use Rattle.vfa_walk.proofs.leaving.tell_no_case.Goals as goal

pub cases-preserved : goal.cases-preserved
cases-preserved g c = record {
  rest = cases_more g.V.Values.answers c.args.f.now c.args.on c.args.width c.args.cases.now c.cases.case-index _ _ _ _ c.cases-test.true c.cases.invariant.rest
      (rw c.if-not-tell.false at c.tell.ensures.becomes);
  state = c.tell.ensures.state c.if-not-tell.false;
}
