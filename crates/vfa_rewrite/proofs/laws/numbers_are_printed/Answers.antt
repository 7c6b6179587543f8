use Rattle.std.proofs.Common.{sym, subst}
use Rattle.vfa_rewrite.specs.ByFacts.{findings_of}
use Rattle.vfa_rewrite.specs.PrintedNumbers.{PrintsNumbers}
use Rattle.vfa_rewrite.proofs.LeftLines.{Known}
use Rattle.vfa_rewrite.proofs.PrintedNumbers.{prints_numbers}
use Rattle.vfa_rewrite.proofs.laws.numbers_are_printed.Goals as goal

pub returns : goal.returns
returns c f g t checked facts r =
    let formed = checked.formed in
    let printable = c.fit_is_printable.ensures f checked.fit in
    let known : Known f (findings_of f t) r.marks = record {
      printable = printable;
      typed = formed.typed;
      phis = formed.phis;
      defined = formed.defined;
      fits = c.findings_fit.ensures f t checked printable facts;
      marks = r.are_marks;
    } in
    subst (PrintsNumbers f t) (sym r.is) (prints_numbers f t r.marks known checked.within)
