use Rattle.std.proofs.Common.{FitsSigned}
use Rattle.std.specs.Int.{w128}
use Rattle.std.proofs.lemmas.Int.{quot_is}
use Rattle.vfa_word.proofs.Readings.{quotient_fits}
use Rattle.vfa_word.proofs.word.Word.sdiv.Goals as goal

pub returns : goal.returns
returns g c =
    let a : FitsSigned w128 c.signed.result = record { sfits = c.signed.type_inv } in
    let b : FitsSigned w128 c.signed-2.result = record { sfits = c.signed-2.type_inv } in
    let q = quotient_fits g.row.W c.args.self c.args.other c.signed.result c.signed-2.result c.signed.ensures.width c.signed.ensures.value
    c.signed-2.ensures.value c.requires.no_overflow a in
    let e = quot_is w128 c.signed.result c.signed-2.result a b q in
    cc
