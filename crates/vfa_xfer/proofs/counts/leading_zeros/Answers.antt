use Rattle.vfa_mean.proofs.Counts.{leading_is}
use Rattle.vfa_xfer.proofs.counts.leading_zeros.Goals as goal

pub overflow_sub-result-2 : goal.overflow_sub-result-2
overflow_sub-result-2 g c = (leading_is g.row.W c.args.bits c.requires.width.most c.requires.number).room

pub returns : goal.returns
returns g c =
    let e = (leading_is g.row.W c.args.bits c.requires.width.most c.requires.number).count in
    cc
