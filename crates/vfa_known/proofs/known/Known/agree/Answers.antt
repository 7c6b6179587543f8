use Rattle.std.proofs.Common.{refl}
use Rattle.vfa_known.specs.Known.{masks_of}
use Rattle.vfa_known.proofs.Agreements.{agree_cube, agree_numbers, agree_some, agree_none}
use Rattle.vfa_known.proofs.known.Known.agree.Goals as goal

pub returns-then-zeros-ones-ne0 : goal.returns-then-zeros-ones-ne0
returns-then-zeros-ones-ne0 g c = let one = c.args.self.now in let two = c.args.other.now in
    agree_none g.row.W (masks_of one) (masks_of two) one.cube two.cube c.if-zeros-ones-ne0.true

pub invariant_of-result : goal.invariant_of-result
invariant_of-result g c = let one = c.args.self.now in let two = c.args.other.now in record {
  width = one.width;
  cube = agree_cube g.row.W (masks_of one) (masks_of two) one.cube two.cube c.if-zeros-ones-ne0.false;
}

pub returns : goal.returns
returns g c = let one = c.args.self.now in let two = c.args.other.now in record {
  some = agree_some g.row.W (masks_of one) (masks_of two) one.cube two.cube c.if-zeros-ones-ne0.false;
  numbers = agree_numbers g.row.W (masks_of one) (masks_of two) one.cube two.cube c.if-zeros-ones-ne0.false;
  zeros = refl;
  ones = refl;
}
