use Rattle.vfa_walk.proofs.stepping.survive.Goals as goal

pub returns-in-Bin-clause-becomes : goal.returns-in-Bin-clause-becomes
returns-in-Bin-clause-becomes g c = rw c.in-Bin.is (c.survive_binary.ensures.becomes c.in-Bin.flags c.in-Bin.a)

pub returns-in-Assume-clause-becomes : goal.returns-in-Assume-clause-becomes
returns-in-Assume-clause-becomes g c = rw c.in-Assume.is c.tell.ensures.becomes
