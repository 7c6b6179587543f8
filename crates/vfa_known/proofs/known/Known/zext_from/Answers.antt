use Rattle.std.proofs.Common.{◌-◌, ◌^◌, arith, refl, ap, bit_or}
use Rattle.std.proofs.lemmas.Nat.{pow_below}
use Rattle.vfa_dom.proofs.ResultSets.{images_vary}
use Rattle.vfa_word.specs.Operations.{zero_extended}
use Rattle.vfa_known.specs.Known.{in_known}
use Rattle.vfa_known.proofs.Moves.{moved_masks, moved_cube_is}
use Rattle.vfa_known.proofs.Places.{zext_moves, between}
use Rattle.vfa_known.proofs.known.Known.zext_from.Goals as goal

pub overflow_sub-result : goal.overflow_sub-result
overflow_sub-result g c = let p = pow_below g.row.V g.row.W c.requires.wider in omega arith

pub invariant_of-result : goal.invariant_of-result
invariant_of-result g c = let m = c.args.from.now in record {
  width = c.requires.width;
  cube = moved_cube_is g.row.V g.row.W zero_extended (λ i. i) (2 ^ g.row.W - 2 ^ g.row.V) m.zeros m.ones
      (zext_moves g.row.V g.row.W m.width c.requires.width c.requires.wider) m.cube _ _
      (ap (bit_or m.zeros) (between c.most.result c.most-2.result g.row.V g.row.W c.most.ensures c.most-2.ensures)) refl;
}

pub returns-clause-best : goal.returns-clause-best
returns-clause-best g c = let m = c.args.from.now in
    moved_masks g.row.V g.row.W zero_extended (λ i. i) (2 ^ g.row.W - 2 ^ g.row.V) m.zeros m.ones
    (zext_moves g.row.V g.row.W m.width c.requires.width c.requires.wider) m.cube _ _
    (ap (bit_or m.zeros) (between c.most.result c.most-2.result g.row.V g.row.W c.most.ensures c.most-2.ensures)) refl

pub returns-clause-unknown : goal.returns-clause-unknown
returns-clause-unknown g c = let m = c.args.from.now in
    images_vary g.row.V zero_extended (in_known g.row.V m) g.row.W
    (zext_moves g.row.V g.row.W m.width c.requires.width c.requires.wider).fits _ (returns-clause-best g c)
