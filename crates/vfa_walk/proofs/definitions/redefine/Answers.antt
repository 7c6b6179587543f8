use Rattle.std.proofs.Common.{Some, ◌∙◌, ap, sym}
use Rattle.vfa_values.specs.Conditions.{IsOf}
use Rattle.vfa_cond.specs.States.{with_fact}
use Rattle.vfa_cond.proofs.Fitting.{some_of}
use Rattle.vfa_walk.proofs.States.{put_state, same_facts_state}
use Rattle.vfa_walk.proofs.definitions.redefine.Goals as goal

pub returns-clause-change : goal.returns-clause-change
returns-clause-change g c = c.put.ensures.change ∙ ap (λ s. with_fact s c.args.v.0 (Some c.args.fact)) c.end_mentions.ensures.ended

pub returns-clause-state : goal.returns-clause-state
returns-clause-state g c =
    let ty = g.V.Values.ty in
    let proper = g.V.Values.proper in
    let f = c.args.f.now in
    let mid = same_facts_state ty proper f c.args.state.now c.end_mentions.new.state c.requires.state c.end_mentions.ensures.room (ap (λ s. s.fact) c.end_mentions.ensures.ended) in
    put_state ty proper f c.end_mentions.new.state c.put.new.self c.args.v.0 (Some c.args.fact) mid c.put.ensures.room c.put.ensures.change c.requires.name.below
    (some_of (IsOf ty proper _) c.args.fact (record { is_proper = c.requires.fact; typed = sym c.requires.name.type_is }))
