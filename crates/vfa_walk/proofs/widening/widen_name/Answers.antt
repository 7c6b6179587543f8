use Rattle.std.proofs.Common.{◌∙◌, ap, ◌&&◌, ◌≡◌}
use Rattle.vfa_cond.specs.States.{known, with_fact, with_live}
use Rattle.vfa_walk.specs.Kept.{taken}
use Rattle.vfa_walk.specs.Joining.{widened}
use Rattle.vfa_walk.proofs.States.{state_is}
use Rattle.vfa_values.specs.Conditions.{width_of}
use Rattle.vfa_cond.specs.Conditions.{name_type}
use Rattle.vfa_walk.specs.Landmarks.{landmarks}
use Rattle.vfa_walk.proofs.Agreeing.{stays}
use Rattle.vfa_walk.proofs.TruthLandmarks.{are_landmarks}
use Rattle.vfa_walk.proofs.widening.widen_name.Goals as goal

pub returns-then-agrees-clause-change : goal.returns-then-agrees-clause-change
returns-then-agrees-clause-change g c =
    let f = c.args.f.now in
    let laws = g.met.V.Values.lawful in
    let t = name_type f c.args.v.0 in
    stays (λ v a b. g.V.Values.answers.widen a b c.args.round (landmarks f (width_of (name_type f v)))) (known c.args.state.now) (known c.args.new.now) c.args.v.0 (c.agrees.ensures c.if-agrees.true)
    (λ d is.
    let of = c.requires.state.facts c.args.v.0 d is in
    laws.steady.widen_itself t d c.args.round (landmarks f (width_of t)) of c.requires.round (are_landmarks f (width_of t) (laws.typed.width t d of)))

pub returns-clause-change : goal.returns-clause-change
returns-clause-change g c =
    let old = known c.args.state.now in
    let both = widened g.V.Values.answers c.args.f.now c.args.round old (known c.args.new.now) in
    let live : (c.live.result && c.live-2.result) ≡ both.live c.args.v.0 = ap (λ b. b && c.live-2.result) c.live.ensures ∙ ap (λ b. old.live c.args.v.0 && b) c.live-2.ensures in
    state_is (known c.take_over.new.state) (taken c.args.v.0 both old)
    (λ u. ap (λ h. h u) c.take_over.ensures.fact ∙ ap (λ o. (with_fact old c.args.v.0 o).fact u) c.widened_fact-fact.ensures.fact)
    (λ u. ap (λ h. h u) c.take_over.ensures.live ∙ ap (λ b. (with_live old c.args.v.0 b).live u) live)
