use Rattle.std.proofs.Common.{◌∙◌, ap, map, refl}
use Rattle.vfa_mean.specs.Renaming as renaming
use Rattle.vfa_mean.specs.Renaming.{Order, at_places, renamed_block, renamed_call, renamed_param}
use Rattle.vfa_mean.proofs.KeptLoops.{same_function}
use Rattle.vfa_mean.proofs.text_order.renamed.Goals as goal

pub returns : goal.returns
returns c =
    let o : Order = c.args.order.now in
    same_function _ (renaming.renamed o c.args.f.now) (record {
      name = c.in_ok-copied.ensures;
      lead = c.in_ok-copied_words.ensures;
      width = refl;
      params = c.params-2.view_is ∙ c.in_ok-params.ensures ∙ ap (map (renamed_param o)) c.as_slice.ensures;
      tail = c.in_ok-copied-2.ensures;
      values = c.in_ok-values.ensures
          ∙ ap (λ vs. at_places vs c.numbers.result.now) c.as_slice-2.ensures
          ∙ ap (at_places c.args.f.now.values) (c.numbers.ensures ∙ ap (λ (r : Order). r.values) c.order.view_is);
      blocks = c.in_ok-blocks.ensures ∙ ap (λ bs. map (renamed_block o) (at_places bs o.blocks)) c.as_slice-3.ensures;
      calls = c.in_ok-calls.ensures ∙ ap (λ cs. map (renamed_call o) (at_places cs o.calls)) c.as_slice-4.ensures;
    })
