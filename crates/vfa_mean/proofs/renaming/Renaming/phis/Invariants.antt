use Rattle.std.proofs.Common.{◌≡◌, map, take}
use Rattle.vfa_mean.specs.Renaming.{renamed_phi}
use Rattle.vfa_mean.proofs.renaming.Renaming.phis.Given as goal

abbrev pub invariant-each : goal.invariant-each
invariant-each l =
    l.all.items ≡ map (renamed_phi l.self) (take l.phi-index l.phis)
