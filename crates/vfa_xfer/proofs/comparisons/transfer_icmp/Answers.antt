use Rattle.std.proofs.Common.{sym, subst}
use Rattle.vfa_fact.specs.Cells.{CellValue, IsCell}
use Rattle.vfa_xfer.specs.AnyFacts.{CellHolds}
use Rattle.vfa_xfer.specs.CompareLaws.{icmp_holds}
use Rattle.vfa_xfer.proofs.comparisons.transfer_icmp.Goals as goal

pub returns-clause-holds : goal.returns-clause-holds
returns-clause-holds c x y r one two given =
    subst (λ (v : CellValue). CellHolds v r) (sym c.icmp.ensures.exact)
    (icmp_holds c.args.pred c.args.samesign c.args.a.now c.args.b.now (subst IsCell c.a.view_is c.a.invariant) (subst IsCell c.b.view_is c.b.invariant) c.requires x y r one two given)
