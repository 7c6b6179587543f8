use Rattle.std.proofs.Common.{refl, ◌+◌, ◌%◌, ◌^◌}
use Rattle.vfa_dom.specs.Results.{IsResult}
use Rattle.vfa_dom.proofs.ResultSets.{IsBest-alike}
use Rattle.vfa_known.specs.Known.{masks_of}
use Rattle.vfa_known.specs.Cube.{in_masks}
use Rattle.vfa_known.proofs.Cubes.{IsCubeResult, cubes_cube, cube_result, result_cube}
use Rattle.vfa_known.proofs.Sums.{sum_masks}
use Rattle.vfa_known.proofs.known.Known.sum.Goals as goal

pub invariant_of-result : goal.invariant_of-result
invariant_of-result g c = let one = c.args.self.now in let two = c.args.other.now in record {
  width = one.width;
  cube = cubes_cube g.row.W (λ x y. (x + y + c.args.carry) % 2 ^ g.row.W) (masks_of one) (masks_of two) one.cube two.cube _ _
      (sum_masks g.row.W c.most-most.result 128 (masks_of one) (masks_of two) c.args.carry one.width.most c.most-most.ensures one.cube two.cube
      _ _ _ refl refl refl c.requires);
}

pub returns : goal.returns
returns g c = let one = c.args.self.now in let two = c.args.other.now in
    IsBest-alike g.row.W
    (IsCubeResult g.row.W (λ x y. (x + y + c.args.carry) % 2 ^ g.row.W) (masks_of one) (masks_of two))
    (IsResult g.row.W (λ x y. (x + y + c.args.carry) % 2 ^ g.row.W) (in_masks g.row.W (masks_of one)) (in_masks g.row.W (masks_of two)))
    _ _
    (cube_result g.row.W (λ x y. (x + y + c.args.carry) % 2 ^ g.row.W) (masks_of one) (masks_of two) one.cube two.cube)
    (result_cube g.row.W (λ x y. (x + y + c.args.carry) % 2 ^ g.row.W) (masks_of one) (masks_of two) one.cube two.cube)
    (sum_masks g.row.W c.most-most.result 128 (masks_of one) (masks_of two) c.args.carry one.width.most c.most-most.ensures one.cube two.cube
    _ _ _ refl refl refl c.requires)
