use Rattle.std.proofs.Common.{◌∙◌, ap}
use Rattle.vfa_dom.specs.Best.{Masks}
use Rattle.vfa_fact.specs.Sharp.{sharp_in}
use Rattle.vfa_fact.specs.Views.{in_test}
use Rattle.vfa_known.specs.Cube.{in_masks}
use Rattle.vfa_known.specs.Known.{in_known}
use Rattle.vfa_wrap.specs.Wrapped.{span_of}
use Rattle.vfa_xfer.specs.Widening.{low_masks, low_in}
use Rattle.vfa_xfer.proofs.LowMasks.{tested_all}
use Rattle.vfa_xfer.proofs.widening.low_within.Goals as goal

pub returns : goal.returns
unfolding low_in
returns g c =
    let w = g.row.W in
    c.sharp.ensures.exact
    ∙ tested_all w (span_of c.args.arc) (in_known w c.low_of.result) (in_test w c.any.result) c.args.arc.arc c.any.ensures
    ∙ ap (λ (m : Masks). sharp_in w (span_of c.args.arc) (in_masks w m)) (c.low_of.ensures ∙ ap (low_masks w) c.known.ensures.masks)
