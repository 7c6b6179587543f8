use Rattle.std.proofs.Common.{◌∙◌, ap, false, get_or, subst}
use Rattle.vfa_cfg.specs.Heads.{is_head}
use Rattle.vfa_cfg.specs.Order.{IsOrder}
use Rattle.vfa_check.proofs.OneOrder.{one_order}
use Rattle.vfa_check.proofs.checking.Checked.is_head.Goals as goal

pub returns : goal.returns
returns c = λ order is.
    let mine : IsOrder c.args.self.now c.self.inside.parts.order.items = subst (λ f. IsOrder f c.self.inside.parts.order.items) c.self.view_is c.self.invariant.1.is_order in
    c.mark_at.ensures ∙ ap (λ marks. get_or marks c.args.b.0 false) c.as_slice.ensures.value ∙ c.self.invariant.1.marks c.args.b.0
    ∙ ap (λ f. is_head f c.self.inside.parts.order.items c.args.b.0) c.self.view_is
    ∙ ap (λ blocks. is_head c.args.self.now blocks c.args.b.0) (one_order c.args.self.now c.self.inside.parts.order.items order mine is)
