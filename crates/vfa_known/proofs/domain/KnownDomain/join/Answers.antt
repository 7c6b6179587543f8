use Rattle.std.proofs.Common.{bit_and}
use Rattle.vfa_dom.specs.Sets.{union}
use Rattle.vfa_dom.proofs.ResultSets.{members_vary}
use Rattle.vfa_known.specs.Known.{masks_of, in_known}
use Rattle.vfa_known.proofs.Cubes.{in_masks_from, in_masks_at}
use Rattle.vfa_known.proofs.Members.{join_cube, join_left, join_right, join_is_best}
use Rattle.vfa_known.proofs.domain.KnownDomain.join.Goals as goal

pub invariant_of-result : goal.invariant_of-result
invariant_of-result g c = let one = c.args.self.now in let two = c.args.other.now in record {
  width = one.width;
  cube = join_cube g.row.W (masks_of one) (masks_of two) one.cube two.cube;
}

pub returns-clause-covers_self : goal.returns-clause-covers_self
returns-clause-covers_self g c x member = let one = c.args.self.now in let two = c.args.other.now in
    in_masks_from g.row.W (bit_and one.zeros two.zeros) (bit_and one.ones two.ones)
    (join_cube g.row.W (masks_of one) (masks_of two) one.cube two.cube) x
    (join_left g.row.W (masks_of one) (masks_of two) one.cube two.cube x (in_masks_at g.row.W one.zeros one.ones one.cube x member))

pub returns-clause-covers_other : goal.returns-clause-covers_other
returns-clause-covers_other g c x member = let one = c.args.self.now in let two = c.args.other.now in
    in_masks_from g.row.W (bit_and one.zeros two.zeros) (bit_and one.ones two.ones)
    (join_cube g.row.W (masks_of one) (masks_of two) one.cube two.cube) x
    (join_right g.row.W (masks_of one) (masks_of two) one.cube two.cube x (in_masks_at g.row.W two.zeros two.ones two.cube x member))

pub returns-clause-best : goal.returns-clause-best
returns-clause-best g c = let one = c.args.self.now in let two = c.args.other.now in
    join_is_best g.row.W (masks_of one) (masks_of two) one.cube two.cube

pub returns-clause-unknown : goal.returns-clause-unknown
returns-clause-unknown g c = let one = c.args.self.now in let two = c.args.other.now in
    members_vary g.row.W (union (in_known g.row.W one) (in_known g.row.W two)) _ (returns-clause-best g c)
