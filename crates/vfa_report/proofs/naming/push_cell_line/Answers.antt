use Rattle.vfa_report.proofs.NameLines.{put_three}
use Rattle.vfa_report.proofs.naming.push_cell_line.Goals as goal

pub returns : goal.returns
returns c =
    put_three c.args.text.now.items c.extend_from_slice.new.self.items c.push_line.new.text.items c.push.new.self.items _ _ _ c.in_ok-extend_from_slice.ensures.items
    c.in_ok-push_line.ensures.line c.in_ok-push.ensures.items
