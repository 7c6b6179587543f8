use Rattle.std.proofs.Common.{sym, subst}
use Rattle.vfa_fact.specs.Cells.{CellValue, IsCell}
use Rattle.vfa_xfer.specs.AnyFacts.{CellHolds}
use Rattle.vfa_xfer.specs.CastSound.{transfer_cast_holds}
use Rattle.vfa_xfer.proofs.casts.transfer_cast.Goals as goal

pub returns-clause-holds : goal.returns-clause-holds
returns-clause-holds c x r one given =
    subst (λ (v : CellValue). CellHolds v r) (sym c.cast_cell.ensures.exact)
    (transfer_cast_holds c.args.cast c.args.flags c.args.to c.args.a.now (subst IsCell c.a.view_is c.a.invariant) c.requires.width c.requires.converts x r one given)
