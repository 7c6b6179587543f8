use Rattle.std.proofs.Common.{subst}
use Rattle.vfa_fact.specs.Cells.{IsCell}
use Rattle.vfa_fact.proofs.EndsOfCells.{cell_divisors_usable, cell_divisors_cover}
use Rattle.vfa_fact.proofs.cell.Cell.divisors.Goals as goal

pub returns-clause-usable : goal.returns-clause-usable
returns-clause-usable c =
    cell_divisors_usable c.args.self.now (subst IsCell c.self.view_is c.self.invariant) c.divisors_by_width.result c.divisors_by_width.ensures

pub returns-clause-covers : goal.returns-clause-covers
returns-clause-covers c y some member =
    cell_divisors_cover c.args.self.now (subst IsCell c.self.view_is c.self.invariant) c.divisors_by_width.result c.divisors_by_width.ensures y some member
