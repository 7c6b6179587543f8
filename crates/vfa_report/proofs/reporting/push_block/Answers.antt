use Rattle.std.proofs.Common.{◌++◌, ◌∙◌, ap}
use Rattle.vfa_walk.specs.Kept.{kept_entries}
use Rattle.vfa_report.proofs.ReportTexts.{headed, never_block, of_none, of_some, started_block}
use Rattle.vfa_report.proofs.reporting.push_block.Goals as goal

pub returns-in_default : goal.returns-in_default
returns-in_default c =
    let f = c.args.f.now in
    let old = c.args.text.now.items in
    never_block f (kept_entries c.args.table.now) c.args.b.0 c.args.block.now old c.push_heading.new.text.items c.extend_from_slice.new.self.items
    (of_none _ _ _ c.in_ok-cursor.ensures.start c.in_default.is)
    (c.in_ok-push_heading.ensures ∙ ap (λ l. old ++ l) (headed f c.args.names.now c.requires.names c.args.b c.args.block.now c.requires.block)) c.in_ok-extend_from_slice.ensures.items

pub returns : goal.returns
returns c =
    let f = c.args.f.now in
    let old = c.args.text.now.items in
    let t = kept_entries c.args.table.now in
    started_block f t c.args.b c.args.block.now c.in-Some.cursor old c.push_heading.new.text.items c.push_reached.new.text.items
    (of_some _ _ _ c.in-Some.cursor c.in_ok-cursor.ensures.start c.in-Some.is)
    (c.in_ok-push_heading.ensures ∙ ap (λ l. old ++ l) (headed f c.args.names.now c.requires.names c.args.b c.args.block.now c.requires.block)) (c.in_ok-push_reached.ensures t)
