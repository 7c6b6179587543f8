use Rattle.vfa_known.specs.Known.{masks_of}
use Rattle.vfa_fact.proofs.Facts.{none_tells}
use Rattle.vfa_fact.proofs.Tested.{some_tells}
use Rattle.std.proofs.Common.{◌∙◌}
use Rattle.vfa_xfer.proofs.LowMasks.{low_made, low_made_cube}
use Rattle.vfa_xfer.proofs.widening.low_of.Goals as goal

pub unreachable-requires : goal.unreachable-requires
unreachable-requires g c =
    let known = c.args.known.now in
    none_tells _ _ _ c.new.ensures c.in_default.is
    (low_made_cube g.row.W c.low_bits.result c.low_bits-2.result (masks_of known) known.cube
    (low_made g.row.W c.zeros-zeros.result c.ones-ones.result c.trailing_ones-run.result c.low_bits.result c.low_bits-2.result (masks_of known)
    known.width.most known.cube c.zeros-zeros.ensures c.ones-ones.ensures c.trailing_ones-run.ensures c.low_bits.ensures c.low_bits-2.ensures))

pub returns : goal.returns
returns g c =
    let known = c.args.known.now in
    some_tells _ _ _ c.in-Some.low c.new.ensures c.in-Some.is
    ∙ low_made g.row.W c.zeros-zeros.result c.ones-ones.result c.trailing_ones-run.result c.low_bits.result c.low_bits-2.result (masks_of known)
    known.width.most known.cube c.zeros-zeros.ensures c.ones-ones.ensures c.trailing_ones-run.ensures c.low_bits.ensures c.low_bits-2.ensures
