use Rattle.std.specs.Int.{w128}
use Rattle.std.proofs.lemmas.Int.{to_z-of_z}
use Rattle.vfa_word.proofs.Readings.{shifted_signed}
use Rattle.vfa_word.proofs.word.Word.shift_overflows_s.Goals as goal

pub returns : goal.returns
returns g c =
    let e = shifted_signed g.row.W c.args.amount c.most.result c.signed.result c.requires c.most.ensures in
    let f = to_z-of_z w128 c.signed.result (record { sfits = c.signed.type_inv }) in
    cc
