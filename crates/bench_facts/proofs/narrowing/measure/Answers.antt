use Rattle.std.proofs.Common.{sym, subst}
use Rattle.vfa_cond.specs.Conditions.{HasTypedEquations}
use Rattle.vfa_mean.specs.FreshOperands.{DefinesOnce}
use Rattle.bench_facts.proofs.narrowing.measure.Goals as goal

pub measure_in-requires-clause-equations : goal.measure_in-requires-clause-equations
measure_in-requires-clause-equations c = subst HasTypedEquations (sym c.function.ensures.same) c.was_checked.ensures.equations

pub measure_in-requires-clause-once : goal.measure_in-requires-clause-once
measure_in-requires-clause-once c = subst DefinesOnce (sym c.function.ensures.same) c.was_checked.ensures.once
