use Rattle.std.proofs.Common.{◌∙◌, ap}
use Rattle.std.specs.Int.{w128, trailing_ones}
use Rattle.vfa_dom.specs.Best.{Masks}
use Rattle.vfa_known.specs.Known.{masks_of}
use Rattle.vfa_known.specs.Product.{run_of, is_known_zero}
use Rattle.vfa_known.proofs.Products.{ones_run, zero_run_is}
use Rattle.vfa_xfer.proofs.counts.zero_run.Goals as goal

pub returns : goal.returns
returns g c =
    let known = c.known.result in
    zero_run_is g.row.W c.trailing_ones.result (masks_of known)
    (ones_run g.row.W known.zeros c.trailing_ones.result known.width.most known.cube.zeros_fit (c.trailing_ones.ensures ∙ ap (trailing_ones w128) c.zeros.ensures))
    ∙ ap (λ (m : Masks). run_of g.row.W (is_known_zero m)) c.known.ensures.masks
