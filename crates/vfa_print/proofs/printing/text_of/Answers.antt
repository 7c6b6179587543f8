use Rattle.std.proofs.Common.{◌∙◌, ap}
use Rattle.std.proofs.lemmas.Result.{IfOk-weaker}
use Rattle.vfa_print.specs.Layout.{sentence_text}
use Rattle.vfa_print.specs.Trees.{tree_with}
use Rattle.vfa_print.proofs.printing.text_of.Goals as goal

pub returns : goal.returns
returns c =
    let f = c.args.f.now in
    IfOk-weaker c.text_with.result _ _
    (λ text is printable. is ∙ ap (λ names. sentence_text (tree_with names f) f.tail) (c.in_ok-names.ensures printable)) c.text_with.ensures
