use Rattle.std.proofs.Common.{sym, subst}
use Rattle.std.proofs.lemmas.Result.{IfOk-weaker}
use Rattle.vfa_ir.specs.declared.functions.Lines.{Lines}
use Rattle.vfa_ir.specs.Reads.{Reads}
use Rattle.vfa_print.proofs.PrintableWhereFit.{fit_is_printable}
use Rattle.vfa_print.proofs.ReadsAgain.{reads_again}
use Rattle.vfa_print.proofs.printing.print_function.Goals as goal

pub returns-clause-text : goal.returns-clause-text
returns-clause-text c =
    let f = c.args.f.now in
    IfOk-weaker c.text_of.result _ _ (λ text shown. shown (fit_is_printable f c.requires)) c.text_of.ensures

pub returns-clause-again : goal.returns-clause-again
returns-clause-again c =
    let f = c.args.f.now in
    let printable = fit_is_printable f c.requires in
    IfOk-weaker c.text_of.result _ _
    (λ text shown. subst (λ bytes. (lines : Lines) × Reads bytes f lines) (sym (shown printable)) (reads_again f printable c.has_few_names.ensures))
    c.text_of.ensures
