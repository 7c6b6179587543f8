use Rattle.std.proofs.Common.{◌≡◌, ℕ, true, false, Bool, sym, inl, arith}
use Rattle.std.specs.Bool.{OnTrue}
use Rattle.vfa_dom.specs.Sets.{includes}
use Rattle.vfa_dom.proofs.SetSearches.{includes_tells}
use Rattle.vfa_wrap.specs.Arc.{Span, in_span}
use Rattle.vfa_wrap.specs.Wrapped.{span_of}
use Rattle.vfa_wrap.proofs.Circle.{in_from}
use Rattle.vfa_wrap.proofs.ArcSets.{included, not_included, included_test}
use Rattle.vfa_wrap.proofs.domain.WrappedDomain.includes.Goals as goal

tells : (w : ℕ) (s t : Span) → includes w (in_span w s) (in_span w t) ≡ true → (x : ℕ) → in_span w t x ≡ true → in_span w s x ≡ true
tells w s t all x h = includes_tells w (in_span w s) (in_span w t) all x ((in_from w t x h).0) h

on_yes : (w : ℕ) (s t : Span) (b : Bool) → b ≡ includes w (in_span w s) (in_span w t) → OnTrue b ((x : ℕ) → in_span w t x ≡ true → in_span w s x ≡ true)
on_yes w s t b e = elim b as (λ v. v ≡ includes w (in_span w s) (in_span w t) → OnTrue v ((x : ℕ) → in_span w t x ≡ true → in_span w s x ≡ true)) [
  | true ↦ λ h. tells w s t (sym h)
  | false ↦ λ h. tt
] e

pub returns-then-own-most-clause-exact : goal.returns-then-own-most-clause-exact
returns-then-own-most-clause-exact g c =
    sym (included g.row.W (span_of c.args.self.now) (span_of c.args.other.now) c.args.self.now.arc c.args.other.now.arc (inl (omega (arith, c.extent-own.ensures.value))))

pub returns-then-own-most-clause-yes : goal.returns-then-own-most-clause-yes
returns-then-own-most-clause-yes g c = tells g.row.W (span_of c.args.self.now) (span_of c.args.other.now) (sym (returns-then-own-most-clause-exact g c))

pub returns-then-own-gap-clause-exact : goal.returns-then-own-gap-clause-exact
returns-then-own-gap-clause-exact g c =
    sym (not_included g.row.W (span_of c.args.self.now) (span_of c.args.other.now) c.args.self.now.arc c.args.other.now.arc
    (λ held. grind (arith, held, c.extent-own.ensures.value, c.steps_up-gap.ensures.value)))

pub returns-clause-exact : goal.returns-clause-exact
returns-clause-exact g c =
    included_test g.row.W c.extent-own.result c.steps_up-gap.result c.extent.result (span_of c.args.self.now) (span_of c.args.other.now) c.args.self.now.arc c.args.other.now.arc
    c.extent-own.ensures.value c.steps_up-gap.ensures.value c.extent.ensures.value (λ e. omega arith) (omega arith)

pub returns-clause-yes : goal.returns-clause-yes
returns-clause-yes g c = on_yes g.row.W (span_of c.args.self.now) (span_of c.args.other.now) _ (returns-clause-exact g c)
