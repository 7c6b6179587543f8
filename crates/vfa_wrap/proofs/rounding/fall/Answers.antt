use Rattle.std.proofs.Common.{◌-◌, ◌∙◌, arith, length}
use Rattle.vfa_wrap.proofs.Marks.{fall_within, fall_round}
use Rattle.vfa_wrap.proofs.rounding.fall.Goals as goal

pub returns-then-place-gt0-clause-value : goal.returns-then-place-gt0-clause-value
returns-then-place-gt0-clause-value g c =
    c.steps_up.ensures.value ∙ fall_within g.row.W (c.marks_up_to-place.result - 1) c.args.marks.now c.args.x c.requires.sorted c.requires.marks_fit c.requires.fits (omega arith)
    (λ k h. c.marks_up_to-place.ensures.up_to k (omega arith)) (λ k h l. c.marks_up_to-place.ensures.others k (omega arith) l)

pub returns-clause-value : goal.returns-clause-value
returns-clause-value g c =
    c.steps_up-2.ensures.value ∙ fall_round g.row.W (length c.args.marks.now - 1) c.args.marks.now c.args.x c.requires.sorted c.requires.marks_fit c.requires.fits (omega arith)
    (λ k h. c.marks_up_to-place.ensures.others k (omega arith) h)
