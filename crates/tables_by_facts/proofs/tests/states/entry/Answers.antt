use Rattle.std.proofs.Common.{sym}
use Rattle.vfa_cond.proofs.Fitting.{some_of}
use Rattle.vfa_walk.proofs.Found.{stored_state}
use Rattle.vfa_walk.proofs.States.{copied_state}
use Rattle.tables_by_facts.proofs.tests.states.entry.Goals as goal

pub returns : goal.returns
returns g c =
    let ty = g.V.Values.ty in
    let proper = g.V.Values.proper in
    let old = stored_state ty proper c.args.f.now c.in_ok-table.table c.args.b.0 c.in_ok-table.ensures.states c.in-Some.entry.now (sym c.in-Some.ensures.stored) in
    some_of _ _ (copied_state ty proper c.args.f.now c.in-Some.entry.now c.in_ok-state.state old c.in_ok-state.ensures.state c.in_ok-state.ensures.names c.in_ok-state.ensures.room)
