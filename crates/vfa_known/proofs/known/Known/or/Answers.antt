use Rattle.std.proofs.Common.{bit_or}
use Rattle.vfa_known.specs.Known.{masks_of}
use Rattle.vfa_known.proofs.Cubes.{cubes_best, cubes_unknown, cubes_cube}
use Rattle.vfa_known.proofs.Digits.{or_best, or_stays}
use Rattle.vfa_known.proofs.known.Known.or.Goals as goal

pub invariant_of-result : goal.invariant_of-result
invariant_of-result g c = let one = c.args.self.now in let two = c.args.other.now in record {
  width = one.width;
  cube = cubes_cube g.row.W bit_or (masks_of one) (masks_of two) one.cube two.cube _ _
      (or_best g.row.W (masks_of one) (masks_of two) one.cube two.cube);
}

pub returns-clause-best : goal.returns-clause-best
returns-clause-best g c = let one = c.args.self.now in let two = c.args.other.now in
    cubes_best g.row.W bit_or (masks_of one) (masks_of two) one.cube two.cube (or_stays g.row.W) _ _
    (or_best g.row.W (masks_of one) (masks_of two) one.cube two.cube)

pub returns-clause-unknown : goal.returns-clause-unknown
returns-clause-unknown g c = let one = c.args.self.now in let two = c.args.other.now in
    cubes_unknown g.row.W bit_or (masks_of one) (masks_of two) one.cube two.cube _ _
    (or_best g.row.W (masks_of one) (masks_of two) one.cube two.cube)
