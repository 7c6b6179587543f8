use Rattle.std.proofs.Common.{◌∙◌}
use Rattle.vfa_xfer.proofs.Widened.{same_widened}
use Rattle.vfa_xfer.proofs.widening.widen.Goals as goal

pub returns-then-same_numbers : goal.returns-then-same_numbers
returns-then-same_numbers c =
    c.with_mark.ensures.value
    ∙ same_widened c.args.round c.args.marks.now c.args.old.now c.args.new.now c.both_marked.result c.same_numbers.ensures.cell
    (c.same_numbers.ensures.same.0 c.if-same_numbers.true) c.both_marked.ensures
