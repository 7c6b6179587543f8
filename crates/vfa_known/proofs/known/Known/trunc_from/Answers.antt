use Rattle.vfa_dom.proofs.ResultSets.{images_vary}
use Rattle.vfa_word.specs.Operations.{truncated}
use Rattle.vfa_known.specs.Known.{in_known}
use Rattle.vfa_known.proofs.Moves.{moved_masks, moved_cube_is}
use Rattle.vfa_known.proofs.Places.{trunc_moves, kept, kept_bits}
use Rattle.vfa_known.proofs.known.Known.trunc_from.Goals as goal

pub invariant_of-result : goal.invariant_of-result
invariant_of-result g c = let m = c.args.from.now in record {
  width = c.requires.width;
  cube = moved_cube_is g.row.V g.row.W (truncated g.row.W) (λ i. i) 0 m.zeros m.ones
      (trunc_moves g.row.V g.row.W m.width c.requires.width c.requires.narrower) m.cube _ _
      (kept_bits m.zeros c.most-kept.result g.row.W c.most-kept.ensures) (kept m.ones c.most-kept.result g.row.W c.most-kept.ensures);
}

pub returns-clause-best : goal.returns-clause-best
returns-clause-best g c = let m = c.args.from.now in
    moved_masks g.row.V g.row.W (truncated g.row.W) (λ i. i) 0 m.zeros m.ones
    (trunc_moves g.row.V g.row.W m.width c.requires.width c.requires.narrower) m.cube _ _
    (kept_bits m.zeros c.most-kept.result g.row.W c.most-kept.ensures) (kept m.ones c.most-kept.result g.row.W c.most-kept.ensures)

pub returns-clause-unknown : goal.returns-clause-unknown
returns-clause-unknown g c = let m = c.args.from.now in
    images_vary g.row.V (truncated g.row.W) (in_known g.row.V m) g.row.W
    (trunc_moves g.row.V g.row.W m.width c.requires.width c.requires.narrower).fits _ (returns-clause-best g c)

pub returns-clause-masks : goal.returns-clause-masks
returns-clause-masks g c = let m = c.args.from.now in
    let zeros = kept m.zeros c.most-kept.result g.row.W c.most-kept.ensures in
    let ones = kept m.ones c.most-kept.result g.row.W c.most-kept.ensures in
    λ i. record { zeros = zeros i; ones = ones i }
