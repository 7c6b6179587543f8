use Rattle.vfa_cond.proofs.state.State.give_back.Goals as goal

pub returns-in-Some-clause-change : goal.returns-in-Some-clause-change
returns-in-Some-clause-change g c = rw c.in-Some.is c.replace.ensures.change
