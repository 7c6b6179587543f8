use Rattle.std.proofs.Common.{◌≡◌, ◌∙◌, ap, subst, sym}
use Rattle.vfa_ir.specs.declared.functions.Function.{Function}
use Rattle.vfa_mean.specs.Kept.{is_marked}
use Rattle.vfa_mean.specs.Numbering as numbering
use Rattle.vfa_mean.specs.Numbering.{text_order}
use Rattle.vfa_mean.specs.Refines.{Refines}
use Rattle.vfa_mean.specs.Renaming as renaming
use Rattle.vfa_mean.specs.Renaming.{Order}
use Rattle.vfa_mean.proofs.KeptLoops.{ok_weaker}
use Rattle.vfa_mean.proofs.text_order.numbered.Goals as goal

pub returns : goal.returns
returns c =
    let f : Function = c.args.f.now in
    let keeps = is_marked c.args.keeps.now in
    let o : Order = c.in_ok-order.order in
    let order : o ≡ text_order f keeps = c.in_ok-order.ensures in
    record {
      exact = ok_weaker (λ g. g ≡ renaming.renamed o f) (λ g. g ≡ numbering.numbered f keeps) c.renamed.result
          (λ g e. e ∙ ap (λ x. renaming.renamed x f) order) c.renamed.ensures;
      refines = ok_weaker (λ g. g ≡ renaming.renamed o f) (Refines f) c.renamed.result
          (λ g e. subst (Refines f) (sym (e ∙ ap (λ x. renaming.renamed x f) order)) (c.numbering_refines.ensures.refines f keeps c.requires.numbered))
          c.renamed.ensures;
    }
