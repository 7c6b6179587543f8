use Rattle.vfa_report.proofs.NameLines.{one_shown, two_shown}
use Rattle.vfa_report.proofs.naming.push_fact.Goals as goal

pub returns-in_ok-push_cell_line-in-One : goal.returns-in_ok-push_cell_line-in-One
returns-in_ok-push_cell_line-in-One c =
    one_shown c.args.text.now.items c.push_cell_line.new.text.items c.args.before.now c.args.name.now c.in-One.cell c.args.fact.now.parts c.in_ok-push_cell_line-in-One.ensures c.in-One.is

pub returns-in_ok-push_cell_line-in-Two-2 : goal.returns-in_ok-push_cell_line-in-Two-2
returns-in_ok-push_cell_line-in-Two-2 c =
    two_shown c.args.text.now.items c.push_cell_line-in-Two.new.text.items c.push_cell_line-in-Two-2.new.text.items c.args.before.now c.args.name.now c.in-Two.number c.in-Two.bit
    c.args.fact.now.parts c.in_ok-push_cell_line-in-Two.ensures c.in_ok-push_cell_line-in-Two-2.ensures c.in-Two.is
