use Rattle.std.proofs.Common.{◌+◌}
use Rattle.vfa_word.proofs.Readings.{out_of_unsigned_range}
use Rattle.vfa_mean.proofs.arithmetic.sum_leaves_unsigned.Goals as goal

pub returns-in-None : goal.returns-in-None
returns-in-None c = out_of_unsigned_range c.args.width (c.args.x + c.args.y) c.requires.most c.in-None.ensures
