use Rattle.std.proofs.Common.{◌+◌}
use Rattle.vfa_word.proofs.Wrapping.{narrower_mod}
use Rattle.vfa_mean.proofs.arithmetic.sum.Goals as goal

pub returns : goal.returns
returns c =
    let e = narrower_mod (c.args.x + c.args.y) 128 c.args.width c.requires.most in
    cc
