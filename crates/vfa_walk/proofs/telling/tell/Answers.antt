use Rattle.vfa_walk.proofs.telling.tell.Goals as goal

pub returns-in-Value-clause-becomes : goal.returns-in-Value-clause-becomes
returns-in-Value-clause-becomes g c = rw (c.in-Value.is, ← c.literal-wanted.ensures) c.tell_name.ensures.becomes
