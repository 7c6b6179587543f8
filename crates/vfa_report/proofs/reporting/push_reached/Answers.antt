use Rattle.std.proofs.Common.{◌++◌, ◌∙◌, ap, ap₂, codes, flat_map}
use Rattle.vfa_ir.specs.declared.functions.Function.{Function}
use Rattle.vfa_cond.specs.States.{Stored, known}
use Rattle.vfa_xfer.specs.declared.any_fact.AnyFact.{AnyFact}
use Rattle.vfa_report.specs.Report.{line_text, used_lines, inst_lines}
use Rattle.vfa_report.specs.Writing.{lines_at}
use Rattle.vfa_report.proofs.ReportTexts.{block_written}
use Rattle.vfa_report.proofs.reporting.push_reached.Goals as goal

pub returns : goal.returns
returns c = λ t here.
    let f = c.args.f.now in
    let names = c.args.names.now in
    let block = c.args.block.now in
    let b = c.args.cursor.now.block.0 in
    let fed = c.push.new.self.items in
    let used = c.push_uses.new.text.items in
    let phis = c.push_phis.new.text.items in
    block_written f names c.requires.names b block c.args.cursor.now.state t c.args.text.now.items fed used phis c.push_insts.new.text.items c.requires.state c.in_ok-push.ensures.items
    (c.in_ok-push_uses.ensures b ∙ ap₂ (λ (h : Function) (s : Stored AnyFact). fed ++ flat_map (line_text h) (used_lines h b block (known s))) c.function.ensures.same c.state.ensures)
    (c.in_ok-push_phis.ensures ∙ ap₂ (λ (s : Stored AnyFact) ps. used ++ flat_map (λ p. lines_at names (codes "    def ") (known s) p.result.0) ps) c.state-2.ensures c.as_slice.ensures)
    (c.in_ok-push_insts.ensures t here ∙ ap (λ insts. phis ++ flat_map (line_text f) (inst_lines f t b 0 insts)) c.as_slice-2.ensures)
