use Rattle.vfa_walk.proofs.leaving.tell_switch.Goals as goal

pub returns-in-Other-clause-becomes : goal.returns-in-Other-clause-becomes
returns-in-Other-clause-becomes g c other = rw (c.in-Other.is, ← c.as_slice.ensures) c.tell_no_case.ensures.becomes

pub returns-in-Case-clause-becomes : goal.returns-in-Case-clause-becomes
returns-in-Case-clause-becomes g c other = rw (c.in-Case.is, ← c.as_slice-in-Case.ensures) c.tell_case.ensures.becomes
