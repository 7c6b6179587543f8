use Rattle.vfa_cond.proofs.tests.narrowed.Goals as goal

pub narrow-requires-clause-function : goal.narrow-requires-clause-function
narrow-requires-clause-function c = c.equations_fit.ensures c.if-not-equations_fit.false
