use Rattle.std.proofs.Common.{subst}
use Rattle.vfa_fact.specs.Cells.{IsCell}
use Rattle.vfa_fact.proofs.JoinedCells.{compared_cell, compared_keeps}
use Rattle.vfa_fact.proofs.cell.Cell.compare.Goals as goal

pub returns-clause-cell : goal.returns-clause-cell
returns-clause-cell c =
    compared_cell c.args.pred c.args.self.now c.args.other.now c.compared.result (subst IsCell c.self.view_is c.self.invariant) c.compared.ensures

pub returns-clause-keeps : goal.returns-clause-keeps
returns-clause-keeps c x y member other passes =
    compared_keeps c.args.pred c.args.self.now c.args.other.now c.compared.result (subst IsCell c.self.view_is c.self.invariant) c.requires c.compared.ensures x y member other passes
