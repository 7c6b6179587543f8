use Rattle.std.proofs.Common.{◌≡◌, ◌∙◌, ap, nat_le}
use Rattle.std.specs.Int.{trailing_ones, w128}
use Rattle.vfa_dom.specs.Best.{Masks}
use Rattle.vfa_known.specs.Product.{run_of, is_known_zero}
use Rattle.vfa_known.proofs.Products.{ones_run, zero_run_is}
use Rattle.vfa_fact.specs.Fact.{masks_in}
use Rattle.vfa_fact.specs.Views.{numbers_of}
use Rattle.vfa_xfer.specs.Binary.{drops_zeros}
use Rattle.vfa_xfer.proofs.binary.drops_zeros.Goals as goal

pub returns : goal.returns
unfolding drops_zeros
returns g c =
    let zeros : c.zeros.result ≡ (masks_in (numbers_of c.args.a.now)).zeros = c.zeros.ensures ∙ ap (λ (m : Masks). m.zeros) c.known.ensures.masks in
    let run : c.trailing_ones.result ≡ run_of g.row.W (is_known_zero (masks_in (numbers_of c.args.a.now))) =
    zero_run_is g.row.W c.trailing_ones.result (masks_in (numbers_of c.args.a.now))
    (ones_run g.row.W (masks_in (numbers_of c.args.a.now)).zeros c.trailing_ones.result c.requires.most c.args.a.now.known.cube.zeros_fit
    (c.trailing_ones.ensures ∙ ap (trailing_ones w128) zeros)) in
    let same : c.from.result ≡ run_of g.row.W (is_known_zero (masks_in (numbers_of c.args.a.now))) = c.from.ensures ∙ run in
    λ i. nat_le ((c.fact_ends.ensures.value i).hi) (same i)
