use Rattle.std.proofs.Common.{◌≡◌, ◌++◌, ◌∙◌, ap, flat_map, subst, sym}
use Rattle.vfa_ir.specs.declared.functions.Function.{Function}
use Rattle.vfa_walk.specs.Kept.{AreStates, kept_entries}
use Rattle.vfa_xfer.specs.AnyFacts.{fact_type, IsAnyFact}
use Rattle.vfa_report.specs.Report.{ReportLine, line_text, lines_from, parameter_lines}
use Rattle.vfa_report.proofs.ReportReads.{report_same}
use Rattle.vfa_report.proofs.ReportTexts.{whole_report}
use Rattle.vfa_report.proofs.reporting.report.Goals as goal

pub push_entry-requires-clause-states : goal.push_entry-requires-clause-states
push_entry-requires-clause-states c = subst (λ h. AreStates fact_type IsAnyFact h c.args.table.now) (sym c.function-function.ensures.same) c.requires.states

pub returns-clause-text : goal.returns-clause-text
returns-clause-text c =
    let f = c.args.f.now in
    let t = kept_entries c.args.table.now in
    let same : c.function-function.result.now ≡ f = c.function-function.ensures.same in
    let new = c.new-text.result.items in
    let titled = c.push_title.new.text.items in
    let entered = c.push_entry.new.text.items in
    whole_report f t new titled entered c.push_blocks.new.text.items c.new-text.ensures.items
    (c.in_ok-push_title.ensures ∙ ap (λ h. new ++ line_text h ReportLine.function) same)
    (c.in_ok-push_entry.ensures ∙ ap (λ h. titled ++ flat_map (line_text h) (parameter_lines h t)) same)
    (c.in_ok-push_blocks.ensures ∙ ap (λ blocks. entered ++ flat_map (line_text f) (lines_from f t 0 blocks)) (c.as_slice.ensures ∙ ap (λ (h : Function). h.blocks) same))

pub returns-clause-report : goal.returns-clause-report
returns-clause-report c table = record { table = kept_entries c.args.table.now; is_table = table; is = returns-clause-text c }

pub returns-clause-by_read_names : goal.returns-clause-by_read_names
returns-clause-by_read_names c t is_table agree =
    record { table = t; is_table = is_table; is = returns-clause-text c ∙ sym (report_same c.args.f.now t (kept_entries c.args.table.now) agree) }
