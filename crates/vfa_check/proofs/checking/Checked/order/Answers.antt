use Rattle.std.proofs.Common.{subst, sym, MatchBool}
use Rattle.vfa_cfg.specs.Ordered.{IsOrdered}
use Rattle.vfa_cfg.proofs.InOrder.{is_ordered}
use Rattle.vfa_check.specs.Scopes.{is_defined}
use Rattle.vfa_ir.specs.Walks.{IsDefinedAt, IsMissedAt}
use Rattle.vfa_check.proofs.checking.Checked.order.Goals as goal

pub returns-clause-ordered : goal.returns-clause-ordered
returns-clause-ordered c =
    subst (IsOrdered c.args.self.now) (sym c.as_slice.ensures.value)
    (subst (λ f. IsOrdered f c.self.inside.parts.order.items) c.self.view_is (is_ordered c.self.inside.function c.self.inside.parts.order.items c.self.invariant.1.is_order))

pub returns-clause-scopes : goal.returns-clause-scopes
returns-clause-scopes c = (
  is_defined c.self.inside.parts.scopes,
  λ b v. subst (λ f. MatchBool (is_defined c.self.inside.parts.scopes b v) (IsDefinedAt f b 0 v) (IsMissedAt f b 0 v)) c.self.view_is (c.self.invariant.1.in_scope.entries b v),
)
