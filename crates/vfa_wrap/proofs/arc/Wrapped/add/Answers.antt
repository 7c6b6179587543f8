use Rattle.std.proofs.Common.{◌∙◌, sym, ap, ◌+◌, ◌%◌, ◌^◌, ◌≤◌, ◌≡◌, ℕ}
use Rattle.vfa_dom.specs.Results.{results}
use Rattle.vfa_word.specs.Operations.{sum_of}
use Rattle.vfa_wrap.specs.Arc.{Span, IsArc, steps, arc_from, sum_span, in_span}
use Rattle.vfa_wrap.specs.Wrapped.{span_of}
use Rattle.vfa_wrap.proofs.SumArcs.{sum_full, sum_part, sums_are}
use Rattle.vfa_wrap.proofs.arc.Wrapped.add.Goals as goal

part : (w p n : ℕ) (s t r : Span) → IsArc w s → IsArc w t → steps w s.first s.last + 1 + (steps w t.first t.last + 1) ≤ 2 ^ w →
    n ≡ steps w s.first s.last + steps w t.first t.last → p ≡ (s.first + t.first) % 2 ^ w → r ≡ arc_from w p (p + n) → r ≡ sum_span w s t
part w p n s t r hs ht room en ep e = e ∙ rw (ep, en) (sym (sum_part w s t hs ht room))

members : (w : ℕ) (s t r : Span) → IsArc w s → IsArc w t → r ≡ sum_span w s t → (n : ℕ) → in_span w r n ≡ results w (sum_of w) (in_span w s) (in_span w t) n
members w s t r hs ht e n = ap (λ (a : Span). in_span w a n) e ∙ sums_are w s t n hs ht

pub returns-in-None-clause-span : goal.returns-in-None-clause-span
returns-in-None-clause-span g c =
    c.everything.ensures ∙ sym (sum_full g.row.W (span_of c.args.self.now) (span_of c.args.other.now) c.in-None.ensures)

pub returns-in-None-clause-sums : goal.returns-in-None-clause-sums
returns-in-None-clause-sums g c =
    members g.row.W (span_of c.args.self.now) (span_of c.args.other.now) _ c.args.self.now.arc c.args.other.now.arc (returns-in-None-clause-span g c)

pub returns-in-Some-clause-span : goal.returns-in-Some-clause-span
returns-in-Some-clause-span g c =
    part g.row.W c.number_ahead.result c.in-Some.extent (span_of c.args.self.now) (span_of c.args.other.now) _ c.args.self.now.arc c.args.other.now.arc
    c.in-Some.ensures.0 c.in-Some.ensures.1 c.number_ahead.ensures.value c.reaching.ensures

pub returns-in-Some-clause-sums : goal.returns-in-Some-clause-sums
returns-in-Some-clause-sums g c =
    members g.row.W (span_of c.args.self.now) (span_of c.args.other.now) _ c.args.self.now.arc c.args.other.now.arc (returns-in-Some-clause-span g c)
