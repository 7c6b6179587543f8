use Rattle.std.proofs.Common.{◌+◌, ◌*◌}
use Rattle.vfa_cond.proofs.state.State.+narrowing.Given as goal

-- each method calls those below it with as many equations left, and `follow` calls `carry_out` with one less
abbrev pub decreases-follow : goal.decreases-follow
decreases-follow g l = 7 * l.left

abbrev pub decreases-narrow_to : goal.decreases-narrow_to
decreases-narrow_to g l = 7 * l.left + 1

abbrev pub decreases-narrow_within : goal.decreases-narrow_within
decreases-narrow_within g l = 7 * l.left + 2

abbrev pub decreases-narrow_by : goal.decreases-narrow_by
decreases-narrow_by g l = 7 * l.left + 2

abbrev pub decreases-narrow_operand : goal.decreases-narrow_operand
decreases-narrow_operand g l = 7 * l.left + 3

abbrev pub decreases-narrow_operand_by : goal.decreases-narrow_operand_by
decreases-narrow_operand_by g l = 7 * l.left + 3

abbrev pub decreases-narrow_both : goal.decreases-narrow_both
decreases-narrow_both g l = 7 * l.left + 4

abbrev pub decreases-hold_names : goal.decreases-hold_names
decreases-hold_names g l = 7 * l.left + 3

abbrev pub decreases-hold_operands : goal.decreases-hold_operands
decreases-hold_operands g l = 7 * l.left + 4

abbrev pub decreases-hold_within : goal.decreases-hold_within
decreases-hold_within g l = 7 * l.left + 5

abbrev pub decreases-carry_out : goal.decreases-carry_out
decreases-carry_out g l = 7 * l.left + 6
