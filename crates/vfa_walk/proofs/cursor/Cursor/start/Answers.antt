use Rattle.std.proofs.Common.{Some, ◌∙◌, ap, sym, refl}
use Rattle.vfa_cond.proofs.Fitting.{some_of}
use Rattle.vfa_walk.proofs.Found.{stored_state}
use Rattle.vfa_walk.proofs.States.{copied_state}
use Rattle.vfa_walk.proofs.cursor.Cursor.start.Goals as goal

pub returns-clause-start : goal.returns-clause-start
returns-clause-start g c = record {
  block = refl;
  line = refl;
  reached = refl;
  entry = sym c.in-Some.ensures.entry ∙ ap Some (sym c.in_ok-state.ensures.state);
}

pub returns-clause-state : goal.returns-clause-state
returns-clause-state g c =
    let ty = g.V.Values.ty in
    let proper = g.V.Values.proper in
    let old = stored_state ty proper c.args.f.now c.args.table.now c.args.b.0 c.requires c.in-Some.entry.now (sym c.in-Some.ensures.stored) in
    some_of _ _ (copied_state ty proper c.args.f.now c.in-Some.entry.now c.in_ok-state.state old c.in_ok-state.ensures.state c.in_ok-state.ensures.names c.in_ok-state.ensures.room)
