use Rattle.std.proofs.Common.{◌≡◌, ℕ, ◌<◌, ◌^◌, sym, ap, ◌∙◌, arith}
use Rattle.std.specs.Prelude.{nat_le}
use Rattle.std.proofs.lemmas.Bool.Decides.{nat_tests}
use Rattle.vfa_wrap.specs.Arc.{Span, in_span, steps}
use Rattle.vfa_wrap.specs.Wrapped.{span_of}
use Rattle.vfa_wrap.proofs.domain.WrappedSetOfWord.has.Goals as goal

within : (w a b n x : ℕ) (s : Span) → n ≡ x → x < 2 ^ w → a ≡ steps w s.first n → b ≡ steps w s.first s.last → nat_le a b ≡ in_span w s x
unfolding in_span
within w a b n x s en hx ea eb =
    let at : a ≡ steps w s.first x = ea ∙ ap (steps w s.first) en in
    grind (arith, nat_tests, at, eb)

pub returns-clause-value : goal.returns-clause-value
returns-clause-value g c = within g.row.W c.steps_up.result c.extent.result c.bits.result c.args.x (span_of c.args.self.now) c.bits.ensures.value (omega (arith, c.bits.ensures)) c.steps_up.ensures.value c.extent.ensures.value

pub returns-clause-member : goal.returns-clause-member
returns-clause-member g c =
    let same = returns-clause-value g c in
    (λ h. sym same ∙ h, λ h. same ∙ h)
