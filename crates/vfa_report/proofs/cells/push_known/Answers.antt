use Rattle.std.proofs.Common.{rules}
use Rattle.vfa_report.proofs.cells.push_known.Goals as goal

pub push_numbers-requires-clause-last : goal.push_numbers-requires-clause-last
push_numbers-requires-clause-last c = (c.cell.invariant.fact c.in-Some.numbers (search rules)).arc.last_fits
