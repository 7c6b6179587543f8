use Rattle.std.proofs.Common.{◌∙◌, ap, Some}
use Rattle.vfa_word.specs.Operations.{difference_of}
use Rattle.vfa_wrap.specs.Arc.{difference_span}
use Rattle.vfa_known.specs.Known.{masks_of}
use Rattle.vfa_fact.specs.Views.{numbers_of}
use Rattle.vfa_xfer.specs.Binary.{difference_row}
use Rattle.vfa_xfer.proofs.RowValues.{best_values, row_values}
use Rattle.vfa_xfer.proofs.binary_rows.difference_row.Goals as goal

pub returns : goal.returns
unfolding difference_row
returns g c = c.row_of.ensures ∙ row_values _ _ _ _ _ _
    (best_values g.row.W (difference_of g.row.W) c.known.result c.known-2.result (masks_of c.sub-bits.result) (numbers_of c.args.a.now) (numbers_of c.args.b.now)
    c.known.ensures.masks c.known-2.ensures.masks c.sub-bits.ensures.best)
    (ap Some (c.sub-arc.ensures.span ∙ (λ i. difference_span g.row.W (c.arc.ensures.span i) (c.arc-2.ensures.span i))))
    c.fact_bounds.ensures
