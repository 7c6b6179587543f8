use Rattle.std.proofs.Common.{sym, subst}
use Rattle.vfa_cond.specs.Conditions.{HasTypedEquations}
use Rattle.vfa_mean.specs.FreshOperands.{DefinesOnce}
use Rattle.vfa_walk.specs.Kept.{IsStateOf}
use Rattle.tables_by_facts.proofs.tests.conditions.tell.Goals as goal

pub tell_in-requires-clause-equations : goal.tell_in-requires-clause-equations
tell_in-requires-clause-equations g c = subst HasTypedEquations (sym c.function.ensures.same) c.was_checked.ensures.equations

pub tell_in-requires-clause-once : goal.tell_in-requires-clause-once
tell_in-requires-clause-once g c = subst DefinesOnce (sym c.function.ensures.same) c.was_checked.ensures.once

pub tell_in-requires-clause-state : goal.tell_in-requires-clause-state
tell_in-requires-clause-state g c =
    subst (λ h. IsStateOf g.V.Values.ty g.V.Values.proper h c.args.state.now) (sym c.function.ensures.same) c.requires.state
