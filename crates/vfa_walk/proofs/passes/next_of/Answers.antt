use Rattle.vfa_walk.proofs.Handed.{taken_states}
use Rattle.vfa_walk.proofs.passes.next_of.Goals as goal

pub returns-clause-states : goal.returns-clause-states
returns-clause-states g c =
    taken_states g.V.Values.ty g.V.Values.proper c.args.f.now c.args.got.now c.met.new.got c.args.b.0 c.requires.states c.met.ensures.left
