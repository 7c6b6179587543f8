use Rattle.std.proofs.Common.{Some, [], get_or, ◌≡◌, sym, ◌∙◌, ap, subst}
use Rattle.vfa_values.specs.Conditions.{IsOf, AreLandmarks, width_of}
use Rattle.vfa_cond.specs.Conditions.{name_type}
use Rattle.vfa_cond.specs.States.{known}
use Rattle.vfa_cond.proofs.Fitting.{some_of}
use Rattle.vfa_walk.specs.Joining.{of_both}
use Rattle.vfa_walk.specs.Landmarks.{landmarks}
use Rattle.vfa_walk.proofs.TruthLandmarks.{are_landmarks}
use Rattle.vfa_walk.proofs.widening.widened_fact.Goals as goal

pub widen-requires-clause-alike : goal.widen-requires-clause-alike
widen-requires-clause-alike g c =
    let first = c.requires.first c.args.v.0 c.in-Some.first (sym c.in-Some.ensures) in
    let second = c.requires.second c.args.v.0 c.in-Some-fact_near.second (sym c.in-Some-fact_near.ensures) in
    record { first = first.is_proper; second = second.is_proper; same_type = first.typed ∙ sym second.typed }

pub widen-requires-clause-landmarks : goal.widen-requires-clause-landmarks
widen-requires-clause-landmarks g c =
    let f = c.args.f.now in
    let t = name_type f c.args.v.0 in
    let first = c.requires.first c.args.v.0 c.in-Some.first (sym c.in-Some.ensures) in
    let width = g.met.V.Values.lawful.typed.width t c.in-Some.first first in
    let w : c.width_of.result ≡ width_of t = c.width_of.ensures ∙ ap width_of c.type_of.ensures in
    let m : c.at.result.now ≡ landmarks f (width_of t) = c.at.ensures ∙ (ap (λ k. get_or c.args.marks.now k []) w ∙ c.requires.marks (width_of t) width) in
    subst (λ u. AreLandmarks (width_of u) c.at.result.now) (sym first.typed) (subst (AreLandmarks (width_of t)) (sym m) (are_landmarks f (width_of t) width))

pub returns-clause-fact : goal.returns-clause-fact
returns-clause-fact g c =
    let answers = g.V.Values.answers in
    let f = c.args.f.now in
    let t = name_type f c.args.v.0 in
    let first = c.requires.first c.args.v.0 c.in-Some.first (sym c.in-Some.ensures) in
    let width = g.met.V.Values.lawful.typed.width t c.in-Some.first first in
    let w : c.width_of.result ≡ width_of t = c.width_of.ensures ∙ ap width_of c.type_of.ensures in
    let m : c.at.result.now ≡ landmarks f (width_of t) = c.at.ensures ∙ (ap (λ k. get_or c.args.marks.now k []) w ∙ c.requires.marks (width_of t) width) in
    let cover = λ (a b : _). answers.widen a b c.args.round (landmarks f (width_of t)) in
    ap Some (c.widen.ensures ∙ ap (answers.widen c.in-Some.first c.in-Some-fact_near.second c.args.round) m)
    ∙ (ap (λ o. of_both cover o (Some c.in-Some-fact_near.second)) c.in-Some.ensures ∙ ap (of_both cover ((known c.args.old.now).fact c.args.v.0)) c.in-Some-fact_near.ensures)

pub returns-clause-of_type : goal.returns-clause-of_type
returns-clause-of_type g c =
    let f = c.args.f.now in
    let t = name_type f c.args.v.0 in
    let of = IsOf g.V.Values.ty g.V.Values.proper t in
    let first = c.requires.first c.args.v.0 c.in-Some.first (sym c.in-Some.ensures) in
    let second = c.requires.second c.args.v.0 c.in-Some-fact_near.second (sym c.in-Some-fact_near.ensures) in
    let width = g.met.V.Values.lawful.typed.width t c.in-Some.first first in
    let w : c.width_of.result ≡ width_of t = c.width_of.ensures ∙ ap width_of c.type_of.ensures in
    let m : c.at.result.now ≡ landmarks f (width_of t) = c.at.ensures ∙ (ap (λ k. get_or c.args.marks.now k []) w ∙ c.requires.marks (width_of t) width) in
    some_of of c.widen.result (subst of (sym c.widen.ensures)
    (g.met.V.Values.lawful.typed.widen t c.in-Some.first c.in-Some-fact_near.second c.args.round c.at.result.now first second c.requires.round
    (subst (AreLandmarks (width_of t)) (sym m) (are_landmarks f (width_of t) width))))
