use Rattle.std.proofs.Common.{Some}
use Rattle.vfa_cond.proofs.Fitting.{some_of}
use Rattle.vfa_walk.proofs.States.{put_state}
use Rattle.tables_by_facts.proofs.tests.states.forget.Goals as goal

pub returns : goal.returns
returns g c =
    put_state g.V.Values.ty g.V.Values.proper c.args.f.now c.args.state.now c.put.new.self c.args.v.0 (Some c.anything-fact.result)
    c.requires.state c.put.ensures.room c.put.ensures.change c.requires.name (some_of _ _ c.anything-fact.ensures)
