use Rattle.vfa_known.proofs.Members.{has_not, has_exactly}
use Rattle.vfa_fact.proofs.numbers.Numbers.agree_with.Goals as goal

pub returns-then-bits-self-ne0 : goal.returns-then-bits-self-ne0
returns-then-bits-self-ne0 c w cube fits = let n = c.args.self.now in has_not w n.zeros n.ones cube c.args.bits c.if-bits-self-ne0.true

pub returns : goal.returns
returns c w cube fits = let n = c.args.self.now in has_exactly w n.zeros n.ones cube c.args.bits fits c.if-bits-self-ne0.false
