use Rattle.vfa_word.proofs.Readings.{shifted_unsigned}
use Rattle.vfa_mean.proofs.shift.leaves_unsigned.Goals as goal

pub returns : goal.returns
returns c = shifted_unsigned c.args.width c.args.t c.args.x c.most.result c.most.ensures
