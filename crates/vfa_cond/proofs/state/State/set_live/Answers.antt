use Rattle.std.proofs.Common.{◌<◌, sym, subst}
use Rattle.vfa_cond.specs.States.{name_count}
use Rattle.vfa_cond.proofs.Entries.{known_marked}
use Rattle.vfa_cond.proofs.state.State.set_live.Goals as goal

pub returns-clause-change : goal.returns-clause-change
returns-clause-change g c = rw (← c.self.view_is) (known_marked _ _ _ _ (subst (λ s. c.args.v.0 < name_count s) (sym c.self.view_is) c.requires))
