use Rattle.vfa_word.proofs.Readings.{shifted_unsigned}
use Rattle.vfa_word.proofs.word.Word.shift_overflows_u.Goals as goal

pub returns : goal.returns
returns g c =
    let e = shifted_unsigned g.row.W c.args.amount c.bits.result c.most.result c.most.ensures in
    cc
