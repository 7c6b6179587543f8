use Rattle.vfa_cond.proofs.state.State.put_at.Goals as goal

pub returns-in-Some-clause-change : goal.returns-in-Some-clause-change
returns-in-Some-clause-change g c = rw c.in-Some.is c.give.ensures.change

pub returns-in-None-clause-change : goal.returns-in-None-clause-change
returns-in-None-clause-change g c = rw c.in-None.is c.drop_fact.ensures.change
