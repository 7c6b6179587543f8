use Rattle.vfa_mean.proofs.Counts.{ones_is}
use Rattle.vfa_mean.proofs.bits.ones.Goals as goal

pub returns : goal.returns
returns c =
    let e = ones_is c.args.width c.args.x c.requires in
    cc
