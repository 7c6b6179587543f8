use Rattle.vfa_walk.proofs.leaving.take_edge.Goals as goal

pub returns-in-CondBr-clause-becomes : goal.returns-in-CondBr-clause-becomes
returns-in-CondBr-clause-becomes g c = rw c.in-CondBr.is (c.tell_branch.ensures.becomes c.in-CondBr.yes c.in-CondBr.no)

pub returns-in-Switch-clause-becomes : goal.returns-in-Switch-clause-becomes
returns-in-Switch-clause-becomes g c = rw c.in-Switch.is (c.tell_switch.ensures.becomes c.in-Switch.other)
