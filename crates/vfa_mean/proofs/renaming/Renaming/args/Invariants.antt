use Rattle.std.proofs.Common.{◌≡◌, map, take}
use Rattle.vfa_mean.specs.Renaming.{renamed_argument}
use Rattle.vfa_mean.proofs.renaming.Renaming.args.Given as goal

abbrev pub invariant-each : goal.invariant-each
invariant-each l =
    l.all.items ≡ map (renamed_argument l.self) (take l.arg-index l.args)
