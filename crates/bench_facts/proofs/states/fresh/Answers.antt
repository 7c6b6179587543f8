use Rattle.vfa_walk.proofs.States.{copied_state}
use Rattle.vfa_xfer.specs.AnyFacts.{fact_type, IsAnyFact}
use Rattle.bench_facts.proofs.states.fresh.Goals as goal

pub returns : goal.returns
returns c = copied_state fact_type IsAnyFact c.args.f.now c.args.spare.now c.in_ok-state.state c.requires c.in_ok-state.ensures.state c.in_ok-state.ensures.names c.in_ok-state.ensures.room
