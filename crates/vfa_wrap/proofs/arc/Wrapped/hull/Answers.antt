use Rattle.std.proofs.Common.{◌∙◌, arith}
use Rattle.vfa_wrap.specs.Wrapped.{span_of}
use Rattle.vfa_wrap.proofs.SmallestArc.{left_is, right_is, tie_is}
use Rattle.vfa_wrap.proofs.arc.Wrapped.hull.Goals as goal

pub returns-then-from_self-from_other : goal.returns-then-from_self-from_other
returns-then-from_self-from_other g c =
    c.reaching.ensures ∙ left_is g.row.W c.reach-from_self.result c.reach-from_other.result (span_of c.args.self.now) (span_of c.args.other.now) c.args.self.now.arc c.args.other.now.arc c.reach-from_self.ensures.value c.reach-from_other.ensures.value (omega arith)

pub returns-then-from_other-from_self : goal.returns-then-from_other-from_self
returns-then-from_other-from_self g c =
    c.reaching-then-from_other-from_self.ensures ∙ right_is g.row.W c.reach-from_self.result c.reach-from_other.result (span_of c.args.self.now) (span_of c.args.other.now) c.args.self.now.arc c.args.other.now.arc c.reach-from_self.ensures.value c.reach-from_other.ensures.value (omega arith)

pub returns : goal.returns
returns g c =
    c.reaching-2.ensures ∙ tie_is g.row.W c.reach-from_self.result c.reach-from_other.result c.min.result (span_of c.args.self.now) (span_of c.args.other.now) c.args.self.now.arc c.args.other.now.arc c.reach-from_self.ensures.value c.reach-from_other.ensures.value (λ l. omega arith) (λ l. omega arith) c.min.ensures
