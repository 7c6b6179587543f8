use Rattle.std.proofs.Common.{get_or, refl}
use Rattle.vfa_mean.specs.Renaming.{renamed_call}
use Rattle.vfa_mean.proofs.KeptLoops.{made_more}
use Rattle.vfa_mean.proofs.text_order.calls_of.Goals as goal

pub each-preserved : goal.each-preserved
each-preserved c =
    made_more (renamed_call c.args.order.now) c.args.calls.now c.numbers-place-items.result.now c.each.place-index
    (get_or c.numbers-place-items.result.now c.each.place-index 0) c.each.all.items c.push_call.new.all.items
    c.each-test.true refl c.each.invariant c.in_ok-push_call.ensures
