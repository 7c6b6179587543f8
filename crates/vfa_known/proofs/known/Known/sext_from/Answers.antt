use Rattle.std.proofs.Common.{◌-◌, min, ◌∙◌}
use Rattle.vfa_dom.proofs.ResultSets.{images_vary}
use Rattle.vfa_word.specs.Operations.{sign_extended}
use Rattle.vfa_known.specs.Known.{in_known}
use Rattle.vfa_known.proofs.Moves.{moved_masks, moved_cube_is, or_none}
use Rattle.vfa_known.proofs.Places.{sext_moves}
use Rattle.vfa_known.proofs.known.Known.sext_from.Goals as goal

pub invariant_of-result : goal.invariant_of-result
invariant_of-result g c = let m = c.args.from.now in record {
  width = c.requires.width;
  cube = moved_cube_is g.row.V g.row.W (sign_extended g.row.V g.row.W) (λ i. min i (g.row.V - 1)) 0 m.zeros m.ones
      (sext_moves g.row.V g.row.W m.width c.requires.width c.requires.wider) m.cube _ _
      (c.sign_extended.ensures ∙ or_none (sign_extended g.row.V g.row.W m.zeros)) c.sign_extended-2.ensures;
}

pub returns-clause-best : goal.returns-clause-best
returns-clause-best g c = let m = c.args.from.now in
    moved_masks g.row.V g.row.W (sign_extended g.row.V g.row.W) (λ i. min i (g.row.V - 1)) 0 m.zeros m.ones
    (sext_moves g.row.V g.row.W m.width c.requires.width c.requires.wider) m.cube _ _
    (c.sign_extended.ensures ∙ or_none (sign_extended g.row.V g.row.W m.zeros)) c.sign_extended-2.ensures

pub returns-clause-unknown : goal.returns-clause-unknown
returns-clause-unknown g c = let m = c.args.from.now in
    images_vary g.row.V (sign_extended g.row.V g.row.W) (in_known g.row.V m) g.row.W
    (sext_moves g.row.V g.row.W m.width c.requires.width c.requires.wider).fits _ (returns-clause-best g c)
