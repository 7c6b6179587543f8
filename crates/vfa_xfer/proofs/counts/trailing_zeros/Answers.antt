use Rattle.vfa_mean.proofs.Counts.{trailing_is}
use Rattle.vfa_xfer.proofs.counts.trailing_zeros.Goals as goal

pub returns : goal.returns
returns g c =
    let e = trailing_is g.row.W c.args.bits c.requires.most in
    cc
