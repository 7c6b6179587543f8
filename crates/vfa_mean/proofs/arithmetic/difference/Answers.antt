use Rattle.std.proofs.Common.{◌^◌, ◌≤◌, arith, pow_mono}
use Rattle.vfa_word.proofs.Wrapping.{wrap_difference}
use Rattle.vfa_mean.proofs.arithmetic.difference.Goals as goal

pub returns : goal.returns
returns c =
    let widest : 2 ^ c.args.width ≤ 2 ^ 128 = pow_mono c.requires.width.most in
    let fits : c.args.y ≤ 2 ^ 128 = omega (arith, c.requires.right, widest) in
    let e = wrap_difference c.args.width c.args.x c.args.y c.requires.width.most fits in
    cc
