use Rattle.std.proofs.Common.{◌≡◌, map, take}
use Rattle.vfa_mean.specs.Renaming.{renamed_inst}
use Rattle.vfa_mean.proofs.renaming.Renaming.insts.Given as goal

abbrev pub invariant-each : goal.invariant-each
invariant-each l =
    l.all.items ≡ map (renamed_inst l.self) (take l.inst-index l.insts)
