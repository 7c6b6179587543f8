use Rattle.std.proofs.Common.{sym, subst}
use Rattle.vfa_fact.specs.Cells.{CellValue, IsCell}
use Rattle.vfa_xfer.specs.AnyFacts.{CellHolds}
use Rattle.vfa_xfer.specs.CountSound.{transfer_one_holds}
use Rattle.vfa_xfer.proofs.counts.transfer_one.Goals as goal

pub returns-clause-holds : goal.returns-clause-holds
returns-clause-holds c x r one given =
    subst (λ (v : CellValue). CellHolds v r) (sym c.one_by_width.ensures)
    (transfer_one_holds c.args.fun c.args.strict c.args.a.now (subst IsCell c.a.view_is c.a.invariant) x r one given)
