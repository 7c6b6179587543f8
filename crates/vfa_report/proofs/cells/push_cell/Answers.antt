use Rattle.std.proofs.Common.{rules}
use Rattle.vfa_report.proofs.LineTexts.{behind, put_four}
use Rattle.vfa_report.proofs.cells.push_cell.Goals as goal

pub returns-clause-line : goal.returns-clause-line
returns-clause-line c before shown is =
    behind before shown c.args.text.now.items _ c.push_known.new.text.items is
    (put_four c.args.text.now.items c.extend_from_slice.new.self.items c.push_decimal.new.text.items c.push.new.self.items c.push_known.new.text.items _ _ _ _
    c.in_ok-extend_from_slice.ensures.items (search rules) c.in_ok-push.ensures.items c.in_ok-push_known.ensures)
