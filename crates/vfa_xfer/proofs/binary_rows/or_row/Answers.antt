use Rattle.std.proofs.Common.{◌∙◌, bit_or}
use Rattle.vfa_wrap.specs.Rows.{row_by_ends}
use Rattle.vfa_wrap.specs.declared.ends_op.EndsOp.{EndsOp}
use Rattle.vfa_known.specs.Known.{masks_of}
use Rattle.vfa_fact.specs.Views.{numbers_of}
use Rattle.vfa_xfer.specs.Binary.{or_bits_row}
use Rattle.vfa_xfer.proofs.RowValues.{best_values, row_values}
use Rattle.vfa_xfer.proofs.binary_rows.or_row.Goals as goal

pub returns : goal.returns
unfolding or_bits_row
returns g c = c.row_of.ensures ∙ row_values _ _ _ _ _ _
    (best_values g.row.W bit_or c.known.result c.known-2.result (masks_of c.or.result) (numbers_of c.args.a.now) (numbers_of c.args.b.now)
    c.known.ensures.masks c.known-2.ensures.masks c.or.ensures.best)
    (c.by_ends.ensures.row ∙ (λ i. row_by_ends EndsOp.Or g.row.W (c.fact_ends.ensures.value i) (c.fact_ends-2.ensures.value i)))
    (c.or_bounds.ensures)
