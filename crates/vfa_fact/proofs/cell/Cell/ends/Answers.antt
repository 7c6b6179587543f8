use Rattle.std.proofs.Common.{subst}
use Rattle.vfa_fact.specs.Cells.{IsCell}
use Rattle.vfa_fact.proofs.EndsOfCells.{cell_ends_reached, cell_ends_between}
use Rattle.vfa_fact.proofs.cell.Cell.ends.Goals as goal

pub returns-clause-reached : goal.returns-clause-reached
returns-clause-reached c = cell_ends_reached c.args.self.now (subst IsCell c.self.view_is c.self.invariant) c.ends_by_width.result c.ends_by_width.ensures

pub returns-clause-between : goal.returns-clause-between
returns-clause-between c x member =
    cell_ends_between c.args.self.now (subst IsCell c.self.view_is c.self.invariant) c.ends_by_width.result c.ends_by_width.ensures x member
