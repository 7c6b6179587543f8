use Rattle.std.proofs.Common.{◌≡◌, map, take}
use Rattle.vfa_mean.specs.Renaming.{renamed_entry}
use Rattle.vfa_mean.proofs.renaming.Renaming.entries.Given as goal

abbrev pub invariant-each : goal.invariant-each
invariant-each l =
    l.all.items ≡ map (renamed_entry l.self) (take l.entry-index l.entries)
