use Rattle.std.proofs.Common.{◌∙◌, ap, sym}
use Rattle.std.proofs.lemmas.List.{drop_all}
use Rattle.vfa_print.specs.Numbered.{named_from}
use Rattle.vfa_print.proofs.NumberedNames.{all_named}
use Rattle.vfa_report.proofs.shown.shown_names.Goals as goal

pub returns : goal.returns
returns c = λ h.
    let f = c.args.f.now in
    sym (ap (named_from f c.all.number c.all.names) (drop_all _ _ c.all-test.false)) ∙ sym c.all.invariant.0
    ∙ ap (λ s. named_from f 0 s c.as_slice-local-items.result.now) c.new-names.ensures
    ∙ ap (named_from f 0 _) (c.as_slice-local-items.ensures.value ∙ c.in_ok-all.ensures)
    ∙ all_named f h
