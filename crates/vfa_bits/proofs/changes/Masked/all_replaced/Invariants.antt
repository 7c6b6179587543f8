use Rattle.std.proofs.Common.{◌≡◌}
use Rattle.std.specs.List.{filter, range_with_len}
use Rattle.vfa_demand.specs.Masks.{mask_in}
use Rattle.vfa_bits.specs.Users.{changes_replaced}
use Rattle.vfa_bits.proofs.changes.Masked.all_replaced.Given as goal

abbrev pub invariant-each : goal.invariant-each
invariant-each l = l.first.items ≡ filter (changes_replaced l.self.f.now (mask_in l.self.masks.now)) (range_with_len 0 l.number)
