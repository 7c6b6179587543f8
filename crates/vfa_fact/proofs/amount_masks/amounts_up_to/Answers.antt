use Rattle.vfa_fact.proofs.MaskedAmounts.{up_to_is}
use Rattle.vfa_fact.proofs.amount_masks.amounts_up_to.Goals as goal

pub returns : goal.returns
returns g c = up_to_is g.row.W c.most.result c.args.high c.requires c.most.ensures c.from.result c.min-last.result c.from.ensures c.min-last.ensures
