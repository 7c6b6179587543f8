use Rattle.std.proofs.Common.{◌≡◌, map, take}
use Rattle.vfa_demand.specs.Masks.{mask_in}
use Rattle.vfa_bits.specs.Narrowed.{new_argument}
use Rattle.vfa_bits.specs.Standing.{put_for}
use Rattle.vfa_bits.proofs.rewriting.Rewriting.arguments.Given as goal

abbrev pub invariant-each : goal.invariant-each
invariant-each l =
    l.all.items ≡ map (new_argument (put_for l.self.f.now (mask_in l.self.masks.now) l.reached)) (take l.argument-index l.arguments)
