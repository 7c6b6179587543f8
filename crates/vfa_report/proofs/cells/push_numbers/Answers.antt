use Rattle.vfa_report.proofs.LineTexts.{put_four}
use Rattle.vfa_report.proofs.cells.push_numbers.Goals as goal

pub returns : goal.returns
returns c =
    put_four c.args.text.now.items c.push_bits.new.text.items c.push.new.self.items c.push_range.new.text.items c.push-2.new.self.items _ _ _ _ c.in_ok-push_bits.ensures
    c.in_ok-push.ensures.items c.in_ok-push_range.ensures c.in_ok-push-2.ensures.items
