use Rattle.std.proofs.Common.{◌∙◌, arith}
use Rattle.vfa_wrap.proofs.Marks.{rise_within, rise_round}
use Rattle.vfa_wrap.proofs.rounding.rise.Goals as goal

pub returns-then-place-marks-clause-value : goal.returns-then-place-marks-clause-value
returns-then-place-marks-clause-value g c =
    c.steps_up.ensures.value ∙ rise_within g.row.W c.marks_below-place.result c.args.marks.now c.args.x c.requires.sorted c.requires.marks_fit c.requires.fits (omega arith)
    c.marks_below-place.ensures.below c.marks_below-place.ensures.others

pub returns-clause-value : goal.returns-clause-value
returns-clause-value g c =
    c.steps_up-2.ensures.value ∙ rise_round g.row.W c.args.marks.now c.args.x c.requires.sorted c.requires.marks_fit c.requires.fits c.requires.some
    (λ k h. c.marks_below-place.ensures.below k (omega arith))
