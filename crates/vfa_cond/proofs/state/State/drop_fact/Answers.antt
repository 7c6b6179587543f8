use Rattle.std.proofs.Common.{sym}
use Rattle.vfa_cond.specs.States.{known}
use Rattle.vfa_cond.proofs.Entries.{same_known}
use Rattle.vfa_cond.proofs.state.State.drop_fact.Goals as goal

pub returns-in-None-clause-change : goal.returns-in-None-clause-change
returns-in-None-clause-change g c = same_known (known c.args.self.now) c.args.v.0 (sym c.in-None.ensures)
