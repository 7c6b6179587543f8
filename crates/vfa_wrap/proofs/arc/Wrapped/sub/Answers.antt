use Rattle.std.proofs.Common.{◌∙◌, sym, ap, ◌+◌, ◌^◌, ◌≤◌, ◌≡◌, ℕ}
use Rattle.vfa_dom.specs.Results.{results}
use Rattle.vfa_word.specs.Operations.{difference_of}
use Rattle.vfa_wrap.specs.Arc.{Span, IsArc, steps, arc_from, difference_span, in_span}
use Rattle.vfa_wrap.specs.Wrapped.{span_of}
use Rattle.vfa_wrap.proofs.SumArcs.{difference_full, difference_part, differences_are}
use Rattle.vfa_wrap.proofs.arc.Wrapped.sub.Goals as goal

part : (w p n : ℕ) (s t r : Span) → IsArc w s → IsArc w t → steps w s.first s.last + 1 + (steps w t.first t.last + 1) ≤ 2 ^ w →
    n ≡ steps w s.first s.last + steps w t.first t.last → p ≡ steps w t.last s.first → r ≡ arc_from w p (p + n) → r ≡ difference_span w s t
part w p n s t r hs ht room en ep e = e ∙ rw (ep, en) (sym (difference_part w s t hs ht room))

members : (w : ℕ) (s t r : Span) → IsArc w s → IsArc w t → r ≡ difference_span w s t → (n : ℕ) → in_span w r n ≡ results w (difference_of w) (in_span w s) (in_span w t) n
members w s t r hs ht e n = ap (λ (a : Span). in_span w a n) e ∙ differences_are w s t n hs ht

pub returns-in-None-clause-span : goal.returns-in-None-clause-span
returns-in-None-clause-span g c =
    c.everything.ensures ∙ sym (difference_full g.row.W (span_of c.args.self.now) (span_of c.args.other.now) c.in-None.ensures)

pub returns-in-None-clause-differences : goal.returns-in-None-clause-differences
returns-in-None-clause-differences g c =
    members g.row.W (span_of c.args.self.now) (span_of c.args.other.now) _ c.args.self.now.arc c.args.other.now.arc (returns-in-None-clause-span g c)

pub returns-in-Some-clause-span : goal.returns-in-Some-clause-span
returns-in-Some-clause-span g c =
    part g.row.W c.steps_up.result c.in-Some.extent (span_of c.args.self.now) (span_of c.args.other.now) _ c.args.self.now.arc c.args.other.now.arc
    c.in-Some.ensures.0 c.in-Some.ensures.1 c.steps_up.ensures.value c.reaching.ensures

pub returns-in-Some-clause-differences : goal.returns-in-Some-clause-differences
returns-in-Some-clause-differences g c =
    members g.row.W (span_of c.args.self.now) (span_of c.args.other.now) _ c.args.self.now.arc c.args.other.now.arc (returns-in-Some-clause-span g c)
