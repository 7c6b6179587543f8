use Rattle.std.proofs.Common.{◌+◌}
use Rattle.vfa_known.specs.Known.{masks_of}
use Rattle.vfa_known.proofs.Products.{product_is, known_low_is, zero_low_is, product_cube_is, product_holds}
use Rattle.vfa_known.proofs.known.Known.mul.Goals as goal

pub invariant_of-result : goal.invariant_of-result
invariant_of-result g c = let one = c.args.self.now in let two = c.args.other.now in record {
  width = one.width;
  cube = product_cube_is g.row.W (masks_of one) (masks_of two) _ one.cube two.cube
      (product_is g.row.W (masks_of one) (masks_of two) c.min.result (c.zero_run.result + c.zero_run-2.result)
      c.low_bits-known.result c.low_bits-zero.result one.width.most
      (known_low_is g.row.W c.known_run.result c.known_run-2.result c.min.result (masks_of one) (masks_of two)
      c.known_run.ensures.run c.known_run-2.ensures.run c.min.ensures)
      (zero_low_is g.row.W c.zero_run.result c.zero_run-2.result (masks_of one) (masks_of two) c.zero_run.ensures.run c.zero_run-2.ensures.run)
      c.low_bits-known.ensures c.low_bits-zero.ensures);
}

pub returns-clause-low_bits : goal.returns-clause-low_bits
returns-clause-low_bits g c = let one = c.args.self.now in let two = c.args.other.now in
    product_is g.row.W (masks_of one) (masks_of two) c.min.result (c.zero_run.result + c.zero_run-2.result)
    c.low_bits-known.result c.low_bits-zero.result one.width.most
    (known_low_is g.row.W c.known_run.result c.known_run-2.result c.min.result (masks_of one) (masks_of two)
    c.known_run.ensures.run c.known_run-2.ensures.run c.min.ensures)
    (zero_low_is g.row.W c.zero_run.result c.zero_run-2.result (masks_of one) (masks_of two) c.zero_run.ensures.run c.zero_run-2.ensures.run)
    c.low_bits-known.ensures c.low_bits-zero.ensures

pub returns-clause-holds : goal.returns-clause-holds
returns-clause-holds g c x y left right = let one = c.args.self.now in let two = c.args.other.now in
    product_holds g.row.W (masks_of one) (masks_of two) _ one.cube two.cube
    (product_is g.row.W (masks_of one) (masks_of two) c.min.result (c.zero_run.result + c.zero_run-2.result)
    c.low_bits-known.result c.low_bits-zero.result one.width.most
    (known_low_is g.row.W c.known_run.result c.known_run-2.result c.min.result (masks_of one) (masks_of two)
    c.known_run.ensures.run c.known_run-2.ensures.run c.min.ensures)
    (zero_low_is g.row.W c.zero_run.result c.zero_run-2.result (masks_of one) (masks_of two) c.zero_run.ensures.run c.zero_run-2.ensures.run)
    c.low_bits-known.ensures c.low_bits-zero.ensures)
    x y left right
