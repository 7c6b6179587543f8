use Rattle.std.proofs.Common.{get_or, refl}
use Rattle.vfa_mean.specs.Renaming.{renamed_block}
use Rattle.vfa_mean.proofs.KeptLoops.{made_more}
use Rattle.vfa_mean.proofs.text_order.blocks_of.Goals as goal

pub each-preserved : goal.each-preserved
each-preserved c =
    made_more (renamed_block c.args.order.now) c.args.blocks.now c.numbers-number-items.result.now c.each.number-index
    (get_or c.numbers-number-items.result.now c.each.number-index 0) c.each.all.items c.push_block.new.all.items
    c.each-test.true refl c.each.invariant c.in_ok-push_block.ensures
