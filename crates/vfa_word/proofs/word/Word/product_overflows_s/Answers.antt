use Rattle.std.proofs.Common.{◌*ℤ◌, to_z, of_z, ◌≡◌}
use Rattle.std.specs.Int.{w128}
use Rattle.std.proofs.lemmas.Int.{to_z-of_z}
use Rattle.vfa_word.specs.Numbers.{signed_of}
use Rattle.vfa_word.proofs.Readings.{beyond_range}
use Rattle.vfa_word.proofs.word.Word.product_overflows_s.Goals as goal

pub returns-in-None : goal.returns-in-None
returns-in-None g c =
    let p = to_z-of_z w128 c.signed.result (record { sfits = c.signed.type_inv }) in
    let q = to_z-of_z w128 c.signed-2.result (record { sfits = c.signed-2.type_inv }) in
    let e : to_z w128 (of_z w128 c.signed.result) *ℤ to_z w128 (of_z w128 c.signed-2.result)
    ≡ signed_of g.row.W c.args.self *ℤ signed_of g.row.W c.args.other = cc in
    beyond_range g.row.W (signed_of g.row.W c.args.self *ℤ signed_of g.row.W c.args.other)
    (to_z w128 (of_z w128 c.signed.result) *ℤ to_z w128 (of_z w128 c.signed-2.result)) c.signed.ensures.width.most e c.in-None.ensures
