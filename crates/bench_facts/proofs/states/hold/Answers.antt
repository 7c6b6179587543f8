use Rattle.bench_facts.proofs.Narrowed.{stays}
use Rattle.bench_facts.proofs.states.hold.Goals as goal

pub returns : goal.returns
returns c = stays c.args.f.now c.args.state.now c.hold.new.self c.hold.result c.requires.state c.hold.ensures.room c.hold.ensures.names c.hold.ensures.facts
