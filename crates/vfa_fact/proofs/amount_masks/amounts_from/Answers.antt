use Rattle.std.proofs.Common.{arith}
use Rattle.vfa_fact.proofs.MaskedAmounts.{none_from, under_fits, from_is}
use Rattle.vfa_fact.proofs.amount_masks.amounts_from.Goals as goal

pub returns-then-low-from : goal.returns-then-low-from
returns-then-low-from g c = none_from g.row.W c.args.low c.from.result c.from.ensures c.if-low-from.true

pub overflow_sub-result : goal.overflow_sub-result
overflow_sub-result g c = let width = c.from.ensures in let below = c.if-low-from.false in
    under_fits g.row.W c.most.result c.args.low c.requires c.most.ensures (omega arith)

pub returns : goal.returns
returns g c = let width = c.from.ensures in let below = c.if-low-from.false in
    from_is g.row.W c.most.result c.args.low c.requires c.most.ensures (omega arith)
