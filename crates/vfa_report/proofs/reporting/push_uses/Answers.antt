use Rattle.std.proofs.Common.{◌++◌, ◌∙◌, ap, map}
use Rattle.vfa_report.proofs.ReportTexts.{uses_are}
use Rattle.vfa_report.proofs.reporting.push_uses.Goals as goal

pub returns : goal.returns
returns c b =
    c.in_ok-push_names.ensures
    ∙ ap (λ l. c.args.text.now.items ++ l)
    (uses_are c.args.f.now c.args.names.now c.requires.names b c.args.block.now c.args.state.now c.as_slice.result.now c.requires.state
    (ap (λ ids. map (λ v. v.0) ids) c.as_slice.ensures.value ∙ c.in_ok-used.ensures))
