use Rattle.std.proofs.Common.{rules}
use Rattle.vfa_report.proofs.FirstUses.{met_before, met_first}
use Rattle.vfa_report.proofs.uses.Uses.name.Goals as goal

pub returns-then-is_marked : goal.returns-then-is_marked
returns-then-is_marked c = met_before c.args.self.now c.args.v.0 (search rules)

pub returns : goal.returns
returns c =
    met_first c.args.self.now c.mark.new.self c.put.new.self c.args.v.0 (search rules) c.in_ok-mark.ensures.marks c.in_ok-put.ensures.marks c.in_ok-mark.ensures.names c.in_ok-put.ensures.names
