use Rattle.std.proofs.Common.{◌≡◌, ℕ, ◌<◌, ◌^◌, true, ap, ◌∙◌}
use Rattle.vfa_wrap.specs.Arc.{Span, in_span, full_span}
use Rattle.vfa_wrap.proofs.Circle.{in_full}
use Rattle.vfa_wrap.proofs.domain.WrappedDomain.any.Goals as goal

in_all : (w x : ℕ) (s : Span) → s ≡ full_span w → x < 2 ^ w → in_span w s x ≡ true
in_all w x s e h = ap (λ (a : Span). in_span w a x) e ∙ in_full w x h

pub returns-clause-all : goal.returns-clause-all
returns-clause-all g c x h = in_all g.row.W x _ c.everything.ensures h
