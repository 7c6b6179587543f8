use Rattle.bench_facts.proofs.Narrowed.{stays}
use Rattle.bench_facts.proofs.states.narrow.Goals as goal

pub returns : goal.returns
returns c = stays c.args.f.now c.args.state.now c.narrow.new.self c.narrow.result c.requires.state c.narrow.ensures.room c.narrow.ensures.names c.narrow.ensures.facts
