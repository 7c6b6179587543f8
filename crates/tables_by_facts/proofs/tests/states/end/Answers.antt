use Rattle.std.proofs.Common.{ap}
use Rattle.vfa_walk.proofs.States.{same_facts_state}
use Rattle.tables_by_facts.proofs.tests.states.end.Goals as goal

pub returns : goal.returns
returns g c =
    same_facts_state g.V.Values.ty g.V.Values.proper c.args.f.now c.args.state.now c.set_live.new.self
    c.requires.state c.set_live.ensures.room (ap (λ s. s.fact) c.set_live.ensures.change)
