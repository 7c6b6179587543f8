use Rattle.std.proofs.Common.{◌∙◌}
use Rattle.vfa_word.specs.Operations.{shifted_left}
use Rattle.vfa_wrap.specs.Ends.{shown_ends}
use Rattle.vfa_wrap.specs.Rows.{row_by_ends}
use Rattle.vfa_wrap.specs.declared.ends_op.EndsOp.{EndsOp}
use Rattle.vfa_known.specs.Known.{masks_of}
use Rattle.vfa_fact.specs.Views.{numbers_of}
use Rattle.vfa_xfer.specs.Binary.{left_row}
use Rattle.vfa_xfer.specs.Bounds.{wrap_bounds}
use Rattle.vfa_word.specs.declared.arith.Arith.{Arith}
use Rattle.vfa_xfer.proofs.RowValues.{amounts_at, shift_values, row_values}
use Rattle.vfa_xfer.proofs.binary_rows.shl_row.Goals as goal

pub returns : goal.returns
unfolding left_row
returns g c = c.row_of.ensures
    ∙ row_values _ _ _ _ _ _
    (shift_values g.row.W (shifted_left g.row.W) c.known.result (masks_of c.shl.result) (numbers_of c.args.a.now) c.in_ok-t.t.mask c.known.ensures.masks c.shl.ensures.best)
    (c.by_ends.ensures.row ∙ (λ i. row_by_ends EndsOp.Shl g.row.W (c.fact_ends-ends.ensures.value i) (shown_ends c.in_ok-t.t.ends)))
    (c.wrap_bounds.ensures ∙ (λ i. wrap_bounds Arith.Shl c.args.flags g.row.W (c.fact_ends-ends.ensures.value i) (shown_ends c.in_ok-t.t.ends)))
    ∙ amounts_at g.row.W (left_row c.args.flags g.row.W (numbers_of c.args.a.now)) (numbers_of c.args.b.now) c.amounts.result c.in_ok-t.t c.amounts.ensures.exact c.in_ok-t.was
