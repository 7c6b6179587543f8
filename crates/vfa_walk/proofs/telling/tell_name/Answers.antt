use Rattle.vfa_walk.proofs.States.{stays_state}
use Rattle.vfa_walk.proofs.telling.tell_name.Goals as goal

pub returns-clause-state : goal.returns-clause-state
returns-clause-state g c sure =
    stays_state g.V.Values.ty g.V.Values.proper c.args.f.now c.args.state.now c.narrow.new.self c.requires.state c.narrow.ensures.room
    (c.narrow.ensures.names sure) (c.narrow.ensures.facts sure)
