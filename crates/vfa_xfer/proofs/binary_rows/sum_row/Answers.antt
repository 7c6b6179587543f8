use Rattle.std.proofs.Common.{◌∙◌, ap, Some}
use Rattle.vfa_word.specs.Operations.{sum_of}
use Rattle.vfa_wrap.specs.Arc.{sum_span}
use Rattle.vfa_known.specs.Known.{masks_of}
use Rattle.vfa_fact.specs.Views.{numbers_of}
use Rattle.vfa_xfer.specs.Binary.{sum_row}
use Rattle.vfa_xfer.proofs.RowValues.{best_values, row_values}
use Rattle.vfa_xfer.proofs.binary_rows.sum_row.Goals as goal

pub returns : goal.returns
unfolding sum_row
returns g c = c.row_of.ensures ∙ row_values _ _ _ _ _ _
    (best_values g.row.W (sum_of g.row.W) c.known.result c.known-2.result (masks_of c.add-bits.result) (numbers_of c.args.a.now) (numbers_of c.args.b.now)
    c.known.ensures.masks c.known-2.ensures.masks c.add-bits.ensures.best)
    (ap Some (c.add-arc.ensures.span ∙ (λ i. sum_span g.row.W (c.arc.ensures.span i) (c.arc-2.ensures.span i))))
    c.fact_bounds.ensures
