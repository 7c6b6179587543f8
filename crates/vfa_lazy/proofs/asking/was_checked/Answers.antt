use Rattle.vfa_lazy.proofs.asking.was_checked.Goals as goal

pub returns-clause-checked : goal.returns-clause-checked
returns-clause-checked c = c.function.ensures.checked

pub returns-clause-printable : goal.returns-clause-printable
returns-clause-printable c = c.fit_is_printable.ensures c.args.f.now c.function.ensures.checked.fit
