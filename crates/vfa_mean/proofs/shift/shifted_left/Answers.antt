use Rattle.std.proofs.Common.{◌*◌, ◌^◌}
use Rattle.vfa_word.proofs.Wrapping.{narrower_mod}
use Rattle.vfa_mean.proofs.shift.shifted_left.Goals as goal

pub returns : goal.returns
returns c =
    let e = narrower_mod (c.args.x * 2 ^ c.args.t) 128 c.args.width c.requires.width.most in
    cc
