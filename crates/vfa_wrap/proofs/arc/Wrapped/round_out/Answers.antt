use Rattle.std.proofs.Common.{◌≡◌, ◌<◌, ◌+◌, ◌^◌, ◌∙◌, ap, true, arith, List, ℕ}
use Rattle.vfa_wrap.specs.Arc.{Span, in_span, full_span, steps, IsArc, arc_from}
use Rattle.vfa_wrap.specs.Rounding.{rounded_out, fall_of, rise_of}
use Rattle.vfa_wrap.specs.Wrapped.{span_of}
use Rattle.vfa_wrap.proofs.Circle.{in_full, in_from}
use Rattle.vfa_wrap.proofs.Marks.{rounded_full, rounded_part, rounded_holds}
use Rattle.vfa_wrap.proofs.arc.Wrapped.round_out.Goals as goal

in_all : (w x : ℕ) (r s : Span) → r ≡ full_span w → in_span w s x ≡ true → in_span w r x ≡ true
in_all w x r s e h = ap (λ (a : Span). in_span w a x) e ∙ in_full w x ((in_from w s x h).0)

part : (w p fall rise own : ℕ) (s t r : Span) (marks : List ℕ) → IsArc w s → fall ≡ fall_of w s t marks → rise ≡ rise_of w s t marks → own ≡ steps w s.first s.last →
    own + 1 + fall + rise < 2 ^ w → p ≡ steps w fall s.first → r ≡ arc_from w p (p + (own + fall + rise)) →
    (r ≡ rounded_out w s t marks) × ((x : ℕ) → in_span w s x ≡ true → in_span w r x ≡ true)
part w p fall rise own s t r marks hs ef er eo room ep e =
    let at : r ≡ arc_from w (steps w fall s.first) (steps w fall s.first + (own + fall + rise)) = e ∙ ap (λ (k : ℕ). arc_from w k (k + (own + fall + rise))) ep in
    (at ∙ rounded_part w fall rise own s t marks hs ef er eo room, λ x h. ap (λ (a : Span). in_span w a x) at ∙ rounded_holds w fall rise own x s hs eo room h)

pub returns-then-down-room-clause-span : goal.returns-then-down-room-clause-span
returns-then-down-room-clause-span g c =
    c.everything.ensures ∙ rounded_full g.row.W c.first_fall-down.result c.last_rise-up.result (span_of c.args.self.now) (span_of c.args.old.now) c.args.marks.now
    c.first_fall-down.ensures.value c.last_rise-up.ensures.value (omega (arith, c.extent-own.ensures.value))

pub returns-then-down-room-clause-covers : goal.returns-then-down-room-clause-covers
returns-then-down-room-clause-covers g c x h = in_all g.row.W x _ (span_of c.args.self.now) c.everything.ensures h

pub returns-then-up-room-clause-span : goal.returns-then-up-room-clause-span
returns-then-up-room-clause-span g c =
    c.everything-then-up-room.ensures ∙ rounded_full g.row.W c.first_fall-down.result c.last_rise-up.result (span_of c.args.self.now) (span_of c.args.old.now) c.args.marks.now
    c.first_fall-down.ensures.value c.last_rise-up.ensures.value (omega (arith, c.extent-own.ensures.value))

pub returns-then-up-room-clause-covers : goal.returns-then-up-room-clause-covers
returns-then-up-room-clause-covers g c x h = in_all g.row.W x _ (span_of c.args.self.now) c.everything-then-up-room.ensures h

pub returns-clause-span : goal.returns-clause-span
returns-clause-span g c =
    (part g.row.W c.steps_up.result c.first_fall-down.result c.last_rise-up.result c.extent-own.result (span_of c.args.self.now) (span_of c.args.old.now) _ c.args.marks.now c.args.self.now.arc
    c.first_fall-down.ensures.value c.last_rise-up.ensures.value c.extent-own.ensures.value (omega arith) c.steps_up.ensures.value c.reaching.ensures).0

pub returns-clause-covers : goal.returns-clause-covers
returns-clause-covers g c =
    (part g.row.W c.steps_up.result c.first_fall-down.result c.last_rise-up.result c.extent-own.result (span_of c.args.self.now) (span_of c.args.old.now) _ c.args.marks.now c.args.self.now.arc
    c.first_fall-down.ensures.value c.last_rise-up.ensures.value c.extent-own.ensures.value (omega arith) c.steps_up.ensures.value c.reaching.ensures).1
