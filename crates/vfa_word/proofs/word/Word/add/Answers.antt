use Rattle.std.proofs.Common.{◌+◌}
use Rattle.vfa_word.proofs.Wrapping.{narrower_mod}
use Rattle.vfa_word.proofs.word.Word.add.Goals as goal

pub returns : goal.returns
returns g c =
    let e = narrower_mod (c.bits.result + c.bits-2.result) 128 g.row.W c.bits.ensures.width.most in
    cc
