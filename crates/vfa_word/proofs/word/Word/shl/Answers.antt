use Rattle.std.proofs.Common.{◌*◌, ◌^◌}
use Rattle.vfa_word.proofs.Wrapping.{narrower_mod}
use Rattle.vfa_word.proofs.word.Word.shl.Goals as goal

pub returns : goal.returns
returns g c =
    let e = narrower_mod (c.bits.result * 2 ^ c.args.amount) 128 g.row.W c.bits.ensures.width.most in
    cc
