use Rattle.std.proofs.Common.{get_or, refl}
use Rattle.vfa_mean.proofs.KeptLoops.{taken_more}
use Rattle.vfa_mean.proofs.text_order.values_at.Goals as goal

pub each-preserved : goal.each-preserved
each-preserved c =
    taken_more c.args.values.now c.args.ids.now c.each.id-index (get_or c.args.ids.now c.each.id-index 0) c.each.all.items c.push_value.new.all.items
    c.each-test.true refl c.each.invariant c.in_ok-push_value.ensures
