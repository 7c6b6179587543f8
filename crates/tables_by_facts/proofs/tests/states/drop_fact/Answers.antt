use Rattle.std.proofs.Common.{None}
use Rattle.vfa_cond.proofs.Fitting.{none_of}
use Rattle.vfa_walk.proofs.States.{put_state}
use Rattle.tables_by_facts.proofs.tests.states.drop_fact.Goals as goal

pub returns : goal.returns
returns g c =
    put_state g.V.Values.ty g.V.Values.proper c.args.f.now c.args.state.now c.put.new.self c.args.v.0 None
    c.requires.state c.put.ensures.room c.put.ensures.change c.requires.name (none_of _)
