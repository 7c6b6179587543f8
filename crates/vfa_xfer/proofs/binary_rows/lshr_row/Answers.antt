use Rattle.std.proofs.Common.{◌∙◌, ap, Some}
use Rattle.vfa_word.specs.Operations.{shifted_right}
use Rattle.vfa_wrap.specs.Ends.{shown_ends}
use Rattle.vfa_wrap.specs.Rows.{row_by_ends}
use Rattle.vfa_wrap.specs.declared.ends_op.EndsOp.{EndsOp}
use Rattle.vfa_known.specs.Known.{masks_of}
use Rattle.vfa_fact.specs.Views.{numbers_of}
use Rattle.vfa_xfer.specs.Binary.{right_row}
use Rattle.vfa_xfer.proofs.RowValues.{amounts_at, shift_values, row_values}
use Rattle.vfa_xfer.proofs.binary_rows.lshr_row.Goals as goal

pub returns : goal.returns
unfolding right_row
returns g c = c.row_of.ensures
    ∙ row_values _ _ _ _ _ _
    (shift_values g.row.W (shifted_right) c.known.result (masks_of c.lshr.result) (numbers_of c.args.a.now) c.in_ok-t.t.mask c.known.ensures.masks c.lshr.ensures.best)
    (c.by_ends.ensures.row ∙ (λ i. row_by_ends EndsOp.Lshr g.row.W (c.fact_ends.ensures.value i) (shown_ends c.in_ok-t.t.ends)))
    (ap Some c.none.ensures)
    ∙ amounts_at g.row.W (right_row g.row.W (numbers_of c.args.a.now)) (numbers_of c.args.b.now) c.amounts.result c.in_ok-t.t c.amounts.ensures.exact c.in_ok-t.was
