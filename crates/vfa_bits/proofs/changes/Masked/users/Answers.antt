use Rattle.vfa_demand.specs.Masks.{mask_in}
use Rattle.vfa_bits.proofs.ChangedNames.{users_more}
use Rattle.vfa_bits.proofs.changes.Masked.users.Goals as goal

pub each-preserved : goal.each-preserved
each-preserved c =
    users_more c.args.self.now.f.now (mask_in c.args.self.now.masks.now) c.args.behind.now c.each.number _ _ _ c.each.invariant c.in_ok-put_short.ensures
