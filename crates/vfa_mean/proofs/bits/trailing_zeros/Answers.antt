use Rattle.vfa_mean.proofs.Counts.{trailing_is}
use Rattle.vfa_mean.proofs.bits.trailing_zeros.Goals as goal

pub returns : goal.returns
returns c =
    let e = trailing_is c.args.width c.args.x c.requires.most in
    cc
