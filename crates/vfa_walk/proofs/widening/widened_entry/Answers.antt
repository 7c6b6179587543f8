use Rattle.vfa_walk.proofs.widening.widened_entry.Goals as goal

pub widened_by-requires-clause-old : goal.widened_by-requires-clause-old
widened_by-requires-clause-old g c = c.requires.old c.in-Some.old c.in-Some.is
