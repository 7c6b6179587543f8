use Rattle.std.proofs.Common.{◌≡◌, ℕ, ◌<◌, ◌≤◌, ◌^◌, sym, ap, ◌∙◌, refl, arith}
use Rattle.std.specs.Prelude.{IsTrue, ◌↔◌}
use Rattle.std.proofs.lemmas.Nat.{pow_below}
use Rattle.vfa_wrap.specs.Arc.{Span, in_span, arc_from}
use Rattle.vfa_wrap.proofs.ArcSets.{first_in, only_first, single_arc}
use Rattle.vfa_wrap.proofs.domain.WrappedSetOfWord.only.Goals as goal

one_number : (w p q x : ℕ) (s : Span) → 1 < 2 ^ w → p ≡ x → q ≡ x → x < 2 ^ w → s ≡ arc_from w p q → s ≡ record { first = x; last = x }
one_number w p q x s two ep eq hx e =
    e ∙ ap (λ (n : ℕ). arc_from w n q) ep ∙ ap (λ (n : ℕ). arc_from w x n) eq ∙ (single_arc w x two hx).0

members : (w x : ℕ) (s : Span) → 1 < 2 ^ w → x < 2 ^ w → s ≡ record { first = x; last = x } → (y : ℕ) → IsTrue (in_span w s y) ↔ (y ≡ x)
members w x s two hx single y =
    let is = (single_arc w x two hx).1 in (
      λ h. only_first w (record { first = x; last = x }) y is refl (sym (ap (λ (a : Span). in_span w a y) single) ∙ h),
      λ at. ap (λ (a : Span). in_span w a y) single ∙ ap (in_span w (record { first = x; last = x })) at ∙ first_in w (record { first = x; last = x }) is,
    )

wide : (w : ℕ) → 1 ≤ w → 1 < 2 ^ w
wide w h = pow_below 0 w (omega arith)

pub returns-clause-span : goal.returns-clause-span
returns-clause-span g c =
    one_number g.row.W c.bits.result c.bits-2.result c.args.x _ (wide g.row.W c.bits.ensures.width.least) c.bits.ensures.value c.bits-2.ensures.value (omega (arith, c.bits.ensures)) c.between.ensures

pub returns-clause-alone : goal.returns-clause-alone
returns-clause-alone g c =
    members g.row.W c.args.x _ (wide g.row.W c.bits.ensures.width.least) (omega (arith, c.bits.ensures)) (returns-clause-span g c)
