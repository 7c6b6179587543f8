use Rattle.std.proofs.Common.{ap, ◌∙◌}
use Rattle.vfa_wrap.specs.Arc.{Span, in_span}
use Rattle.vfa_wrap.specs.Wrapped.{span_of}
use Rattle.vfa_wrap.proofs.ArcSets.{hull_holds_left, hull_holds_right}
use Rattle.vfa_wrap.proofs.domain.WrappedDomain.join.Goals as goal

pub returns-clause-covers_self : goal.returns-clause-covers_self
returns-clause-covers_self g c x h =
    ap (λ (a : Span). in_span g.row.W a x) c.hull.ensures ∙ hull_holds_left g.row.W (span_of c.args.self.now) (span_of c.args.other.now) x c.args.self.now.arc c.args.other.now.arc h

pub returns-clause-covers_other : goal.returns-clause-covers_other
returns-clause-covers_other g c x h =
    ap (λ (a : Span). in_span g.row.W a x) c.hull.ensures ∙ hull_holds_right g.row.W (span_of c.args.self.now) (span_of c.args.other.now) x c.args.self.now.arc c.args.other.now.arc h
