use Rattle.std.proofs.Common.{◌++◌}
use Rattle.vfa_report.specs.FactLines.{local_text}
use Rattle.vfa_report.proofs.LineTexts.{shown_pieces}
use Rattle.vfa_report.proofs.lines.push_line.Goals as goal

pub returns-clause-line : goal.returns-clause-line
returns-clause-line c =
    c.push_cell.ensures.line c.args.text.now.items (local_text c.args.name.now ++ c.args.part.now)
    (shown_pieces _ c.push.new.self.items c.push_name.new.text.items c.extend_from_slice.new.self.items _ _ _ c.in_ok-push.ensures.items c.in_ok-push_name.ensures c.in_ok-extend_from_slice.ensures.items)
