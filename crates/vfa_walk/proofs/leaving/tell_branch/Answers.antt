use Rattle.vfa_walk.proofs.leaving.tell_branch.Goals as goal

pub returns-in-Yes-clause-becomes : goal.returns-in-Yes-clause-becomes
returns-in-Yes-clause-becomes g c taken fallen = rw c.in-Yes.is c.tell.ensures.becomes

pub returns-in-No-clause-becomes : goal.returns-in-No-clause-becomes
returns-in-No-clause-becomes g c taken fallen = rw c.in-No.is c.tell-in-No.ensures.becomes
