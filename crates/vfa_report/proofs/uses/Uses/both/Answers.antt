use Rattle.vfa_report.proofs.FirstUses.{met_both}
use Rattle.vfa_report.proofs.uses.Uses.both.Goals as goal

pub returns : goal.returns
returns c = met_both _ _ _ _ _ c.in_ok-operand.ensures c.in_ok-operand-2.ensures
