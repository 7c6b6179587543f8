use Rattle.std.specs.Int.{w128}
use Rattle.std.proofs.lemmas.Int.{to_z-of_z}
use Rattle.vfa_word.proofs.Readings.{shifted_signed}
use Rattle.vfa_mean.proofs.shift.leaves_signed.Goals as goal

pub returns : goal.returns
returns c =
    let e = shifted_signed c.args.width c.args.t c.most.result c.signed.result c.requires.amount c.most.ensures in
    let f = to_z-of_z w128 c.signed.result (record { sfits = c.signed.type_inv }) in
    cc
