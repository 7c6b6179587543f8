use Rattle.std.proofs.Common.{◌≡◌}
use Rattle.vfa_print.specs.Trees.{shown_scope}
use Rattle.vfa_report.proofs.ReportTexts.{HasWritten}
use Rattle.vfa_report.proofs.reporting.push_insts.Given as goal

abbrev pub invariant-insts : goal.invariant-insts
invariant-insts l = (same : l.names ≡ shown_scope l.f) → HasWritten l.f l.names same l.insts l.initial.cursor l.initial.text.items l.inst-index l.cursor l.text.items
