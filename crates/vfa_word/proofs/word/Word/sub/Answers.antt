use Rattle.std.proofs.Common.{◌^◌, ◌≤◌, arith}
use Rattle.vfa_word.proofs.Wrapping.{wrap_difference}
use Rattle.vfa_word.proofs.word.Word.sub.Goals as goal

pub returns : goal.returns
returns g c =
    let l : c.bits-2.result ≤ 2 ^ 128 = omega (arith, c.bits-2.type_inv) in
    let e = wrap_difference g.row.W c.bits.result c.bits-2.result c.bits.ensures.width.most l in
    cc
