use Rattle.std.proofs.Common.{subst}
use Rattle.vfa_fact.specs.Cells.{IsCell}
use Rattle.vfa_fact.proofs.EndsOfCells.{cell_amounts_usable, cell_amounts_cover}
use Rattle.vfa_fact.proofs.cell.Cell.amounts.Goals as goal

pub returns-clause-usable : goal.returns-clause-usable
returns-clause-usable c =
    cell_amounts_usable c.args.self.now (subst IsCell c.self.view_is c.self.invariant) c.amounts_by_width.result c.amounts_by_width.ensures

pub returns-clause-covers : goal.returns-clause-covers
returns-clause-covers c t below member =
    cell_amounts_cover c.args.self.now (subst IsCell c.self.view_is c.self.invariant) c.amounts_by_width.result c.amounts_by_width.ensures t below member
