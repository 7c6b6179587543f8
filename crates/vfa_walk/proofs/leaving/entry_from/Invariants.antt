use Rattle.std.proofs.Common.{◌≡◌, drop}
use Rattle.vfa_mean.specs.Outcomes.{entry_from}
use Rattle.vfa_walk.proofs.leaving.entry_from.Given as goal

abbrev pub invariant-entries : goal.invariant-entries
invariant-entries l = entry_from l.from.0 l.entries ≡ entry_from l.from.0 (drop l.entry-index l.entries)
