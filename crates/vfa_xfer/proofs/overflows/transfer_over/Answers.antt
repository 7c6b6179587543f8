use Rattle.std.proofs.Common.{sym, subst, rules}
use Rattle.vfa_fact.specs.declared.cell.Parts.{Parts}
use Rattle.vfa_fact.specs.Cells.{IsCell}
use Rattle.vfa_xfer.specs.AnyFacts.{PartsHold}
use Rattle.vfa_xfer.specs.OverflowLaws.{over_holds}
use Rattle.vfa_xfer.proofs.overflows.transfer_over.Goals as goal

pub returns-clause-exact : goal.returns-clause-exact
returns-clause-exact c = search rules

pub returns-clause-holds : goal.returns-clause-holds
returns-clause-holds c x y r one two given =
    subst (λ (p : Parts). PartsHold p r) (sym (returns-clause-exact c))
    (over_holds c.args.over c.args.a.now c.args.b.now (subst IsCell c.a.view_is c.a.invariant) (subst IsCell c.b.view_is c.b.invariant) c.requires x y r one two given)
