use Rattle.std.proofs.Common.{◌≡◌, ◌++◌, drop, flat_map}
use Rattle.vfa_demand.specs.Masks.{mask_in}
use Rattle.vfa_bits.specs.Users.{signs_of}
use Rattle.vfa_bits.proofs.changes.Masked.push_all_signs.Given as goal

abbrev pub invariant-each : goal.invariant-each
invariant-each l =
    l.initial.first.items ++ flat_map (signs_of l.self.f.now (mask_in l.self.masks.now)) l.blocks
    ≡ l.first.items ++ flat_map (signs_of l.self.f.now (mask_in l.self.masks.now)) (drop l.block-index l.blocks)
