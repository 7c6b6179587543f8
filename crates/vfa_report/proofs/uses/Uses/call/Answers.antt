use Rattle.vfa_report.proofs.FirstUses.{met_no_call}
use Rattle.vfa_report.proofs.uses.Uses.call.Goals as goal

pub returns-in-None : goal.returns-in-None
returns-in-None c = met_no_call c.args.self.now c.args.f.now.calls c.as_slice.result.now c.args.call c.in-None.ensures.lookup.3 c.as_slice.ensures
