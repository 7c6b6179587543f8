use Rattle.std.proofs.Common.{◌∙◌, sym}
use Rattle.vfa_demand.proofs.Shifts.{left_cut, right_of_literal}
use Rattle.vfa_demand.proofs.rows.right_value.Goals as goal

pub returns-in-Literal : goal.returns-in-Literal
returns-in-Literal c =
    c.cut.ensures
    ∙ left_cut c.args.width c.args.mask c.in-Literal.amount c.requires.most
    ∙ sym (right_of_literal c.args.width c.args.amount c.in-Literal.amount c.args.mask c.in-Literal.is c.if-amount-width.true)
