use Rattle.std.proofs.Common.{◌≡◌, ℕ, sym, ap, ◌∙◌, Option, Some, None}
use Rattle.std.specs.Prelude.{IsTrue, ◌↔◌}
use Rattle.vfa_wrap.specs.Arc.{Span, in_span, IsArc}
use Rattle.vfa_wrap.specs.Wrapped.{span_of}
use Rattle.vfa_wrap.proofs.ArcSets.{first_in, last_in, only_first, single_first, single_none}
use Rattle.vfa_wrap.proofs.domain.WrappedDomain.single.Goals as goal

only_one : (w : ℕ) (s : Span) (a x : ℕ) → IsArc w s → s.first ≡ s.last → a ≡ s.first →
    (Some a ≡ Some x) ↔ ((y : ℕ) → IsTrue (in_span w s y) ↔ (y ≡ x))
only_one w s a x hs e ea = (
  λ same. let e' : x ≡ s.first = cc in
      λ y. (λ h. only_first w s y hs e h ∙ sym e', λ at. ap (in_span w s) (at ∙ e') ∙ first_in w s hs),
  λ all. let at : s.first ≡ x = (all s.first).0 (first_in w s hs) in ap Some (ea ∙ at),
)

not_one : (w : ℕ) (s : Span) (x : ℕ) → IsArc w s → (s.first ≡ s.last → ⊥) →
    (◌≡◌ {A = Option ℕ} None (Some x)) ↔ ((y : ℕ) → IsTrue (in_span w s y) ↔ (y ≡ x))
not_one w s x hs other = (
  λ same. absurd (cc),
  λ all. absurd (other ((all s.first).0 (first_in w s hs) ∙ sym ((all s.last).0 (last_in w s hs)))),
)

pub returns-then-self-clause-only : goal.returns-then-self-clause-only
returns-then-self-clause-only g c x = only_one g.row.W (span_of c.args.self.now) c.first.result x c.args.self.now.arc c.if-self.true c.first.ensures

pub returns-then-self-clause-value : goal.returns-then-self-clause-value
returns-then-self-clause-value g c = ap Some c.first.ensures ∙ sym (single_first g.row.W (span_of c.args.self.now) c.args.self.now.arc c.if-self.true)

pub returns-clause-only : goal.returns-clause-only
returns-clause-only g c x = not_one g.row.W (span_of c.args.self.now) x c.args.self.now.arc c.if-self.false

pub returns-clause-value : goal.returns-clause-value
returns-clause-value g c = sym (single_none g.row.W (span_of c.args.self.now) c.args.self.now.arc c.if-self.false)
