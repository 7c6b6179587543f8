use Rattle.std.proofs.Common.{sym, subst}
use Rattle.vfa_fact.specs.Cells.{CellValue, IsCell}
use Rattle.vfa_xfer.specs.AnyFacts.{CellHolds}
use Rattle.vfa_xfer.specs.BinarySound.{binary_holds}
use Rattle.vfa_xfer.proofs.binary.transfer_binary.Goals as goal

pub returns-clause-holds : goal.returns-clause-holds
returns-clause-holds c x y r hx hy given =
    subst (λ (v : CellValue). CellHolds v r) (sym c.binary_cell.ensures)
    (binary_holds c.args.bin c.args.flags c.args.a.now c.args.b.now (subst IsCell c.a.view_is c.a.invariant) (subst IsCell c.b.view_is c.b.invariant) x y r c.requires hx hy given)
