use Rattle.std.proofs.Common.{◌≡◌, ◌++◌, drop, flat_map}
use Rattle.vfa_demand.specs.Masks.{mask_in}
use Rattle.vfa_bits.specs.Users.{sign_of}
use Rattle.vfa_bits.proofs.changes.Masked.push_signs.Given as goal

abbrev pub invariant-each : goal.invariant-each
invariant-each l =
    l.initial.first.items ++ flat_map (sign_of l.self.f.now (mask_in l.self.masks.now)) l.insts
    ≡ l.first.items ++ flat_map (sign_of l.self.f.now (mask_in l.self.masks.now)) (drop l.inst-index l.insts)
