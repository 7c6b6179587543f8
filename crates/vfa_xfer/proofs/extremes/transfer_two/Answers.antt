use Rattle.std.proofs.Common.{sym, subst, rules}
use Rattle.vfa_fact.specs.Cells.{CellValue, IsCell}
use Rattle.vfa_xfer.specs.AnyFacts.{CellHolds}
use Rattle.vfa_xfer.specs.ExtremeLaws.{transfer_two_holds}
use Rattle.vfa_xfer.proofs.extremes.transfer_two.Goals as goal

pub returns-clause-exact : goal.returns-clause-exact
returns-clause-exact c = search rules

pub returns-clause-holds : goal.returns-clause-holds
returns-clause-holds c x y r one two given =
    subst (λ (v : CellValue). CellHolds v r) (sym (returns-clause-exact c))
    (transfer_two_holds c.args.fun c.args.a.now c.args.b.now (subst IsCell c.a.view_is c.a.invariant) (subst IsCell c.b.view_is c.b.invariant) c.requires x y r one two given)
