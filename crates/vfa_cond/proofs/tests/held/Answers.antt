use Rattle.vfa_cond.proofs.tests.held.Goals as goal

pub hold-requires-clause-function : goal.hold-requires-clause-function
hold-requires-clause-function c = c.equations_fit.ensures c.if-not-equations_fit.false
