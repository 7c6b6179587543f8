use Rattle.std.proofs.Common.{ap}
use Rattle.std.specs.Option.{option_map}
use Rattle.vfa_cond.specs.States.{known}
use Rattle.vfa_rewrite.proofs.putting_operands.decided.Goals as goal

pub fact_of-requires-clause-facts : goal.fact_of-requires-clause-facts
fact_of-requires-clause-facts c = c.requires.facts (known c.in-Some.state.now) (ap (option_map (λ s. known s.now)) c.in-Some.is)
