use Rattle.vfa_known.proofs.Amounts.{below_le, rest_is}
use Rattle.vfa_known.proofs.shift.without_run.Goals as goal

pub returns : goal.returns
returns g c = rest_is g.row.W c.args.amounts c.args.run.first c.args.run.count c.requires.width c.requires.run

pub overflow_sub-result : goal.overflow_sub-result
overflow_sub-result g c = below_le g.row.W c.args.amounts c.args.run.first c.args.run.count c.requires.width c.requires.run
