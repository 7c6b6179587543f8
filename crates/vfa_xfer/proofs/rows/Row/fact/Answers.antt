use Rattle.std.proofs.Common.{◌≡◌, ◌∙◌, ap, sym, Some}
use Rattle.vfa_xfer.specs.Rows.{row_fact, full_row, shown_row}
use Rattle.vfa_xfer.proofs.RowTests.{row_is_tested, full_row_fact}
use Rattle.vfa_xfer.proofs.rows.Row.fact.Goals as goal

pub returns-then-asks_nothing : goal.returns-then-asks_nothing
returns-then-asks_nothing g c =
    let all : shown_row c.args.self.now ≡ full_row g.row.W = c.if-asks_nothing.ensures in
    ap Some c.any.ensures.numbers ∙ sym (full_row_fact g.row.W) ∙ ap (row_fact g.row.W) (sym all)

pub returns : goal.returns
returns g c = c.sharp.ensures.exact ∙ row_is_tested g.row.W c.args.self.now
