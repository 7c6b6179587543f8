use Rattle.std.proofs.Common.{◌∙◌}
use Rattle.vfa_fact.proofs.MaskedAmounts.{plain_arc, turned_arc}
use Rattle.vfa_fact.proofs.amount_masks.amounts_in_arc.Goals as goal

pub returns-then-first-last : goal.returns-then-first-last
returns-then-first-last g c = let arc = c.args.arc.now in
    plain_arc g.row.W arc.first arc.last c.bits-first.result c.bits-last.result c.amounts_from-from.result c.amounts_up_to-up_to.result arc.arc
    (c.bits-first.ensures.value ∙ c.first.ensures) (c.bits-last.ensures.value ∙ c.last.ensures) c.amounts_from-from.ensures c.amounts_up_to-up_to.ensures
    c.if-first-last.true

pub returns : goal.returns
returns g c = let arc = c.args.arc.now in
    turned_arc g.row.W arc.first arc.last c.bits-first.result c.bits-last.result c.amounts_from-from.result c.amounts_up_to-up_to.result arc.arc
    (c.bits-first.ensures.value ∙ c.first.ensures) (c.bits-last.ensures.value ∙ c.last.ensures) c.amounts_from-from.ensures c.amounts_up_to-up_to.ensures
    c.if-first-last.false
