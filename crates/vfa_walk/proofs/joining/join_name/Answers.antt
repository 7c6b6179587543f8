use Rattle.std.proofs.Common.{◌∙◌, ap, ◌&&◌, ◌≡◌}
use Rattle.vfa_cond.specs.States.{known, with_fact, with_live}
use Rattle.vfa_walk.specs.Kept.{taken}
use Rattle.vfa_walk.specs.Joining.{joined}
use Rattle.vfa_walk.proofs.States.{state_is}
use Rattle.vfa_cond.specs.Conditions.{name_type}
use Rattle.vfa_walk.proofs.Agreeing.{stays}
use Rattle.vfa_walk.proofs.joining.join_name.Goals as goal

pub returns-then-agrees-clause-change : goal.returns-then-agrees-clause-change
returns-then-agrees-clause-change g c =
    let f = c.args.f.now in
    let old = known c.args.state.now in
    stays (λ _. g.V.Values.answers.join) old (known c.args.other.now) c.args.v.0 (c.agrees.ensures c.if-agrees.true)
    (λ d is. g.met.V.Values.lawful.steady.join_itself (name_type f c.args.v.0) d (c.requires.state.facts c.args.v.0 d is))

pub returns-clause-change : goal.returns-clause-change
returns-clause-change g c =
    let old = known c.args.state.now in
    let both = joined g.V.Values.answers old (known c.args.other.now) in
    let live : (c.live.result && c.live-2.result) ≡ both.live c.args.v.0 = ap (λ b. b && c.live-2.result) c.live.ensures ∙ ap (λ b. old.live c.args.v.0 && b) c.live-2.ensures in
    state_is (known c.take_over.new.state) (taken c.args.v.0 both old)
    (λ u. ap (λ h. h u) c.take_over.ensures.fact ∙ ap (λ o. (with_fact old c.args.v.0 o).fact u) c.joined_fact-fact.ensures.fact)
    (λ u. ap (λ h. h u) c.take_over.ensures.live ∙ ap (λ b. (with_live old c.args.v.0 b).live u) live)
