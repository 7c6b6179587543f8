use Rattle.std.proofs.Common.{◌≡◌, map, take}
use Rattle.vfa_mean.specs.Renaming.{renamed_param}
use Rattle.vfa_mean.proofs.renaming.Renaming.params.Given as goal

abbrev pub invariant-each : goal.invariant-each
invariant-each l =
    l.all.items ≡ map (renamed_param l.self) (take l.param-index l.params)
