use Rattle.std.proofs.Common.{◌∙◌, ap}
use Rattle.vfa_cond.specs.States.{with_live}
use Rattle.vfa_walk.proofs.States.{put_state, same_facts_state}
use Rattle.vfa_walk.proofs.joining.take_over.Goals as goal

pub returns-clause-fact : goal.returns-clause-fact
returns-clause-fact g c = ap (λ s. s.fact) c.set_live.ensures.change ∙ ap (λ s. s.fact) c.put_near.ensures.change

pub returns-clause-live : goal.returns-clause-live
returns-clause-live g c = ap (λ s. s.live) c.set_live.ensures.change ∙ ap (λ s. (with_live s c.args.v.0 c.args.live).live) c.put_near.ensures.change

pub returns-clause-state : goal.returns-clause-state
returns-clause-state g c =
    let ty = g.V.Values.ty in
    let proper = g.V.Values.proper in
    let f = c.args.f.now in
    let mid = put_state ty proper f c.args.state.now c.put_near.new.self c.args.v.0 c.args.fact c.requires.state c.put_near.ensures.room c.put_near.ensures.change c.requires.name c.requires.fact in
    same_facts_state ty proper f c.put_near.new.self c.set_live.new.self mid c.set_live.ensures.room (ap (λ s. s.fact) c.set_live.ensures.change)
