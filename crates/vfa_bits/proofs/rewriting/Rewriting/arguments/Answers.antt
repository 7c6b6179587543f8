use Rattle.vfa_demand.specs.Masks.{mask_in}
use Rattle.vfa_bits.specs.Narrowed.{new_argument}
use Rattle.vfa_bits.specs.Standing.{put_for}
use Rattle.vfa_bits.proofs.Mapped.{argument_is, mapped_more}
use Rattle.vfa_bits.proofs.rewriting.Rewriting.arguments.Goals as goal

pub each-preserved : goal.each-preserved
each-preserved c =
    mapped_more (new_argument (put_for c.args.self.now.f.now (mask_in c.args.self.now.masks.now) c.args.reached)) c.args.arguments.now c.each.argument-index c.argument-item.result _
    c.each.all.items c.push.new.self.items c.each-test.true c.argument-item.is c.each.invariant c.in_ok-push.ensures.items
    (argument_is (put_for c.args.self.now.f.now (mask_in c.args.self.now.masks.now) c.args.reached) c.argument-item.result _ _ c.in_ok-words.ensures c.put.ensures)
