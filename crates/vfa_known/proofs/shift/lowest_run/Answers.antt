use Rattle.std.proofs.Common.{arith}
use Rattle.vfa_known.proofs.Amounts.{lowest_run_is}
use Rattle.vfa_known.proofs.shift.lowest_run.Goals as goal

pub returns : goal.returns
returns g c = let count = c.trailing_ones-count in
    lowest_run_is g.row.W c.args.amounts count.result c.requires.width (omega (arith, c.requires.some)) c.requires.below c.ranges.amounts.fits count.ensures
