use Rattle.std.proofs.Common.{◌≡◌, ◌<◌, ◌∙◌, ℕ, arith, false, get_or, length}
use Rattle.std.proofs.lemmas.List.{length-replicate}
use Rattle.vfa_bits.proofs.Marking.{number_in}
use Rattle.vfa_bits.proofs.reached.marks_of.Goals as goal

pub index_mut-requires : goal.index_mut-requires
index_mut-requires c =
    let n : ℕ = (get_or c.args.blocks.now c.each.block-index (record { 0 = 0 })).0 in
    let below : n < c.args.count = c.requires n (number_in c.args.blocks.now c.each.block-index (record { 0 = 0 }) c.each-test.true) in
    let whole : length c.each.marks.items ≡ c.args.count = c.each.invariant.whole ∙ length-replicate c.args.count false in
    omega (arith, below, whole, c.each.marks.ok.0)
