use Rattle.std.proofs.Common.{ap}
use Rattle.vfa_walk.proofs.States.{same_facts_state}
use Rattle.vfa_xfer.specs.AnyFacts.{fact_type, IsAnyFact}
use Rattle.bench_facts.proofs.states.enliven.Goals as goal

pub returns : goal.returns
returns c =
    same_facts_state fact_type IsAnyFact c.args.f.now c.args.state.now c.set_live.new.self
    c.requires.state c.set_live.ensures.room (ap (λ s. s.fact) c.set_live.ensures.change)
