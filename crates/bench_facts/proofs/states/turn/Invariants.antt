use Rattle.vfa_walk.specs.Kept.{IsStateOf}
use Rattle.vfa_xfer.specs.AnyFacts.{fact_type, IsAnyFact}
use Rattle.bench_facts.proofs.states.turn.Given as goal

abbrev pub invariant-each : goal.invariant-each
invariant-each l = IsStateOf fact_type IsAnyFact l.f l.state
