use Rattle.std.proofs.Common.{◌≡◌, map, take}
use Rattle.vfa_mean.specs.Renaming.{renamed_case}
use Rattle.vfa_mean.proofs.renaming.Renaming.cases.Given as goal

abbrev pub invariant-each : goal.invariant-each
invariant-each l =
    l.all.items ≡ map (renamed_case l.self) (take l.case-index l.cases)
