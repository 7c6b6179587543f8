use Rattle.vfa_mean.proofs.Counts.{ones_is}
use Rattle.vfa_xfer.proofs.counts.ones.Goals as goal

pub returns : goal.returns
returns g c =
    let e = ones_is g.row.W c.args.bits c.requires in
    cc
