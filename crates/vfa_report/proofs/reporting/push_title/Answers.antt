use Rattle.std.proofs.Common.{◌++◌, ◌∙◌, ap}
use Rattle.vfa_print.specs.Layout.{name_text}
use Rattle.vfa_report.proofs.NameLines.{put_three}
use Rattle.vfa_report.proofs.reporting.push_title.Goals as goal

pub returns : goal.returns
returns c =
    put_three c.args.text.now.items c.extend_from_slice.new.self.items c.push_name.new.text.items c.push.new.self.items _ _ _ c.in_ok-extend_from_slice.ensures.items
    (c.in_ok-push_name.ensures ∙ ap (λ n. c.extend_from_slice.new.self.items ++ name_text n) c.bytes.ensures) c.in_ok-push.ensures.items
