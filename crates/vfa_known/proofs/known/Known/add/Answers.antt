use Rattle.vfa_word.specs.Operations.{sum_of}
use Rattle.vfa_dom.proofs.ResultSets.{best_results, unknown_bits_vary}
use Rattle.vfa_known.specs.Known.{masks_of}
use Rattle.vfa_known.specs.Cube.{in_masks}
use Rattle.vfa_known.proofs.Sums.{sum_without_carry, add_stays}
use Rattle.vfa_known.proofs.known.Known.add.Goals as goal

pub returns-clause-best : goal.returns-clause-best
returns-clause-best g c = let one = c.args.self.now in let two = c.args.other.now in
    best_results g.row.W (sum_of g.row.W) (in_masks g.row.W (masks_of one)) (in_masks g.row.W (masks_of two)) (add_stays g.row.W) _ _
    (sum_without_carry g.row.W (in_masks g.row.W (masks_of one)) (in_masks g.row.W (masks_of two)) _ _ c.sum.ensures)

pub returns-clause-unknown : goal.returns-clause-unknown
returns-clause-unknown g c = let one = c.args.self.now in let two = c.args.other.now in
    unknown_bits_vary g.row.W (sum_of g.row.W) (in_masks g.row.W (masks_of one)) (in_masks g.row.W (masks_of two)) _ _
    (sum_without_carry g.row.W (in_masks g.row.W (masks_of one)) (in_masks g.row.W (masks_of two)) _ _ c.sum.ensures)
