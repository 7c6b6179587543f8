use Rattle.vfa_mean.proofs.Counts.{leading_is}
use Rattle.vfa_mean.proofs.bits.leading_zeros.Goals as goal

pub overflow_sub-result-2 : goal.overflow_sub-result-2
overflow_sub-result-2 c = (leading_is c.args.width c.args.x c.requires.width.most c.requires.number).room

pub returns : goal.returns
returns c =
    let e = (leading_is c.args.width c.args.x c.requires.width.most c.requires.number).count in
    cc
