use Rattle.std.proofs.Common.{sym, subst, IfOk, ◌≡◌}
use Rattle.std.specs.Option.{option_map}
use Rattle.vfa_cond.specs.States.{known}
use Rattle.vfa_walk.specs.Kept.{IsStateOf}
use Rattle.vfa_walk.specs.Leaving.{left_to}
use Rattle.vfa_walk.specs.Passes.{followed}
use Rattle.vfa_walk.proofs.Found.{stored_state}
use Rattle.vfa_walk.proofs.pairs.pair_state.Goals as goal

pub pair_state_in-requires-clause-state : goal.pair_state_in-requires-clause-state
pair_state_in-requires-clause-state g c =
    let ty = g.V.Values.ty in
    let proper = g.V.Values.proper in
    subst (λ h. IsStateOf ty proper h c.in-Some.entry.now) (sym c.ready.ensures.same)
    (stored_state ty proper c.args.f.now c.args.table.now c.args.from.0 c.requires c.in-Some.entry.now (sym c.in-Some.ensures.stored))

pub returns-clause-pair : goal.returns-clause-pair
returns-clause-pair g c =
    let answers = g.V.Values.answers in
    subst (λ e. IfOk c.pair_state_in.result (λ o. option_map known o ≡ followed (left_to answers c.args.f.now c.args.from.0 c.args.to.0) e)) c.in-Some.ensures.entry
    (subst (λ h. IfOk c.pair_state_in.result (λ o. option_map known o ≡ left_to answers h c.args.from.0 c.args.to.0 (known c.in-Some.entry.now))) c.ready.ensures.same c.pair_state_in.ensures.pair)
