use Rattle.std.proofs.Common.{arith}
use Rattle.vfa_wrap.proofs.ArcEnds.{least_whole, least_split}
use Rattle.vfa_wrap.proofs.ends.least_in.Goals as goal

pub returns-then-first-last-clause-value : goal.returns-then-first-last-clause-value
returns-then-first-last-clause-value g c =
    least_whole g.row.W (record { first = c.args.first; last = c.args.last }) c.requires.first_fits c.requires.last_fits (omega arith)

pub returns-clause-value : goal.returns-clause-value
returns-clause-value g c =
    least_split g.row.W (record { first = c.args.first; last = c.args.last }) c.requires.first_fits c.requires.last_fits (omega arith)
