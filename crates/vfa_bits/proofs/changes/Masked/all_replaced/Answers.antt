use Rattle.vfa_mean.proofs.KeptLoops.{marked_more}
use Rattle.vfa_demand.specs.Masks.{mask_in}
use Rattle.vfa_bits.specs.Users.{changes_replaced}
use Rattle.vfa_bits.proofs.changes.Masked.all_replaced.Goals as goal

pub each-preserved : goal.each-preserved
each-preserved c =
    marked_more (changes_replaced c.args.self.now.f.now (mask_in c.args.self.now.masks.now)) c.each.number c.each.first.items c.push_replaced.new.first.items c.each.invariant c.in_ok-push_replaced.ensures
