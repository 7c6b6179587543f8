use Rattle.std.proofs.Common.{◌≤◌, ◌^◌, length, sym, subst}
use Rattle.vfa_ir.specs.declared.functions.Function.{Function}
use Rattle.vfa_check.specs.Checked.{IsChecked}
use Rattle.vfa_rewrite.specs.ByFacts.{findings_of}
use Rattle.vfa_rewrite.specs.Sizes.{IsLittleLarger}
use Rattle.vfa_rewrite.proofs.laws.rewritten_is_checked.Goals as goal

pub returns-clause-little_larger : goal.returns-clause-little_larger
returns-clause-little_larger c f g t checked facts r =
    let fits = c.findings_fit.ensures f t checked (c.fit_is_printable.ensures f checked.fit) facts in
    subst (IsLittleLarger f) (sym r.is) (c.fitting_marks_leave_checked.ensures.little_larger f (findings_of f t) r.marks checked fits r.are_marks)

pub returns-clause-checked : goal.returns-clause-checked
returns-clause-checked c f g t checked facts r small =
    let fits = c.findings_fit.ensures f t checked (c.fit_is_printable.ensures f checked.fit) facts in
    subst IsChecked (sym r.is)
    (c.fitting_marks_leave_checked.ensures.checked f (findings_of f t) r.marks checked fits r.are_marks (subst (λ (h : Function). length h.values ≤ 2 ^ 28) r.is small))
