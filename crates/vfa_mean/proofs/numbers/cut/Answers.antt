use Rattle.vfa_word.proofs.Wrapping.{masked}
use Rattle.vfa_mean.proofs.numbers.cut.Goals as goal

pub returns : goal.returns
returns c = masked c.args.bits c.most.result c.args.width c.most.ensures
