use Rattle.vfa_fact.proofs.CellNumbers.{cell_with, all_fact, all_has}
use Rattle.vfa_fact.specs.Cells.{in_option}
use Rattle.vfa_fact.proofs.cell.Cell.any.Goals as goal

pub invariant_of-result : goal.invariant_of-result
invariant_of-result c = cell_with c.args.width _ c.args.never_poison c.requires (all_fact c.args.width c.most_of.result c.most_of.ensures)

pub returns-clause-cell : goal.returns-clause-cell
returns-clause-cell c = invariant_of-result c

pub returns-clause-all : goal.returns-clause-all
unfolding in_option
returns-clause-all c x fits = all_has c.args.width c.most_of.result x c.most_of.ensures fits
