use Rattle.std.proofs.Common.{sym, refl}
use Rattle.vfa_walk.proofs.Steps.{becomes_is}
use Rattle.vfa_walk.proofs.cursor.Cursor.step_in.Goals as goal

pub returns-then-step-clause-moved : goal.returns-then-step-clause-moved
returns-then-step-clause-moved g c = record {
  block = refl;
  line = refl;
  was_reached = c.if-not-self.false;
  reached = c.if-not-self.false;
  inst = c.in-Some.inst;
  here = sym c.in-Some.ensures.found;
  state = becomes_is _ _ (rw c.if-step.true at c.step.ensures.becomes);
}
