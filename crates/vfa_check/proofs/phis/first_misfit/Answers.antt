use Rattle.std.proofs.Common.{◌≡◌, ◌∙◌, ◌<◌, below_more, length, refl, subst, sym, true}
use Rattle.vfa_ir.specs.PhisFit.{PhisFitIn}
use Rattle.vfa_check.specs.Predecessors.{FitsBlock}
use Rattle.vfa_check.proofs.BlockFits.{block_from_fits, fits_from_block, row_is, row_within}
use Rattle.vfa_check.proofs.EachStep.{found_at}
use Rattle.vfa_check.proofs.phis.first_misfit.Goals as goal

pub fits_block-requires-clause-within : goal.fits_block-requires-clause-within
fits_block-requires-clause-within c =
    let same = row_is c.in_ok-of.of.items c.as_slice-block-items.result.now c.args.f.now.blocks c.each.place c.index.result.now c.as_slice-in-each.result.now
    c.in_ok-of.ensures.each c.as_slice-block-items.ensures c.each-test.true c.index.ensures c.as_slice-in-each.ensures in
    row_within c.args.f.now c.in_ok-of.of.items c.each.place (length c.each.tallies.left.items) c.as_slice-in-each.result.now c.in_ok-of.ensures same c.each.invariant.each

pub each-preserved : goal.each-preserved
each-preserved c =
    let same = row_is c.in_ok-of.of.items c.as_slice-block-items.result.now c.args.f.now.blocks c.each.place c.index.result.now c.as_slice-in-each.result.now
    c.in_ok-of.ensures.each c.as_slice-block-items.ensures c.each-test.true c.index.ensures c.as_slice-in-each.ensures in
    let here = found_at c.as_slice-block-items.result.now c.args.f.now.blocks c.each.place c.block-item.result c.as_slice-block-items.ensures c.each-test.true c.block-item.is in
    let fits = c.if-not-fits_block.ensures.fit.0 refl in
    record {
      each = c.fits_block.ensures.each ∙ c.each.invariant.each;
      clear = c.if-not-fits_block.ensures.clear refl;
      before = below_more (PhisFitIn c.args.f.now) c.each.place c.each.invariant.before
          (fits_from_block c.args.f.now c.in_ok-of.of.items c.each.place c.as_slice-in-each.result.now c.block-item.result c.in_ok-of.ensures here same
          (subst (FitsBlock c.each.place c.as_slice-in-each.result.now) c.as_slice-in-each-2.ensures fits));
    }

pub returns-then-not-fits_block : goal.returns-then-not-fits_block
returns-then-not-fits_block c =
    let same = row_is c.in_ok-of.of.items c.as_slice-block-items.result.now c.args.f.now.blocks c.each.place c.index.result.now c.as_slice-in-each.result.now
    c.in_ok-of.ensures.each c.as_slice-block-items.ensures c.each-test.true c.index.ensures c.as_slice-in-each.ensures in
    let here = found_at c.as_slice-block-items.result.now c.args.f.now.blocks c.each.place c.block-item.result c.as_slice-block-items.ensures c.each-test.true c.block-item.is in
    record {
      within = subst (λ bs. c.each.place < length bs) c.as_slice-block-items.ensures c.each-test.true;
      before = c.each.invariant.before;
      here = λ fits.
          let block = block_from_fits c.args.f.now c.in_ok-of.of.items c.each.place c.as_slice-in-each.result.now c.block-item.result c.in_ok-of.ensures here same fits in
          let yes : c.fits_block.result ≡ true = c.fits_block.ensures.fit.1 (subst (FitsBlock c.each.place c.as_slice-in-each.result.now) (sym c.as_slice-in-each-2.ensures) block) in
          cc;
    }
