use Rattle.std.proofs.Common.{◌+◌}
use Rattle.vfa_word.proofs.Readings.{out_of_unsigned_range}
use Rattle.vfa_word.proofs.word.Word.sum_overflows_u.Goals as goal

pub returns-in-None : goal.returns-in-None
returns-in-None g c =
    let e = out_of_unsigned_range g.row.W (c.bits.result + c.bits-2.result) c.bits.ensures.width.most c.in-None.ensures in
    cc
