use Rattle.std.proofs.Common.{◌∙◌, ap, sym, subst, rules}
use Rattle.vfa_fact.specs.Cells.{CellValue, IsCell, in_cell}
use Rattle.vfa_fact.proofs.JoinedCells.{joined_cell, joined_left, joined_right}
use Rattle.vfa_fact.proofs.cell.Cell.join.Goals as goal

one : (c : goal.Joined-self) → IsCell c.args.self.now
one c = subst IsCell c.self.view_is c.self.invariant

two : (c : goal.Joined-self) → IsCell c.args.other.now
two c = subst IsCell c.other.view_is c.other.invariant

pub returns-clause-exact : goal.returns-clause-exact
returns-clause-exact c = search rules

pub returns-clause-cell : goal.returns-clause-cell
returns-clause-cell c =
    subst IsCell (sym (returns-clause-exact c)) (joined_cell c.args.self.now c.args.other.now (one c) (two c) c.requires)

pub invariant_of-result : goal.invariant_of-result
invariant_of-result c = returns-clause-cell c

pub returns-clause-covers_self : goal.returns-clause-covers_self
returns-clause-covers_self c x member =
    ap (λ (v : CellValue). in_cell v x) (returns-clause-exact c) ∙ joined_left c.args.self.now c.args.other.now (one c) (two c) c.requires x member

pub returns-clause-covers_other : goal.returns-clause-covers_other
returns-clause-covers_other c x member =
    ap (λ (v : CellValue). in_cell v x) (returns-clause-exact c) ∙ joined_right c.args.self.now c.args.other.now (one c) (two c) c.requires x member
