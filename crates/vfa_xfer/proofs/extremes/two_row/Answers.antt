use Rattle.std.proofs.Common.{◌∙◌, ap, Some}
use Rattle.vfa_wrap.specs.Rows.{row_by_ends}
use Rattle.vfa_xfer.specs.Extremes.{two_row}
use Rattle.vfa_xfer.proofs.RowValues.{row_values}
use Rattle.vfa_xfer.proofs.extremes.two_row.Goals as goal

pub returns : goal.returns
unfolding two_row
returns g c = c.row_of.ensures ∙ row_values _ _ _ _ _ _
    c.cube.ensures
    (c.by_ends.ensures.row ∙ (λ i. row_by_ends (c.ends_operation.ensures.value i) g.row.W (c.fact_ends.ensures.value i) (c.fact_ends-2.ensures.value i)))
    (ap Some c.none.ensures)
