use Rattle.std.proofs.Common.{◌∙◌, ap, Some, bit_xor}
use Rattle.vfa_known.specs.Known.{masks_of}
use Rattle.vfa_fact.specs.Views.{numbers_of}
use Rattle.vfa_xfer.specs.Binary.{xor_bits_row}
use Rattle.vfa_xfer.proofs.RowValues.{best_values, row_values}
use Rattle.vfa_xfer.proofs.binary_rows.xor_row.Goals as goal

pub returns : goal.returns
unfolding xor_bits_row
returns g c = c.row_of.ensures ∙ row_values _ _ _ _ _ _
    (best_values g.row.W bit_xor c.known.result c.known-2.result (masks_of c.xor.result) (numbers_of c.args.a.now) (numbers_of c.args.b.now)
    c.known.ensures.masks c.known-2.ensures.masks c.xor.ensures.best)
    (ap Some c.any.ensures.span)
    (ap Some c.none.ensures)
