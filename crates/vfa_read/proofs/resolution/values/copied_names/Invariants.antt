use Rattle.std.proofs.Common.{◌≡◌, ◌++◌, drop}
use Rattle.vfa_read.proofs.resolution.values.copied_names.Given as goal

abbrev pub invariant-each : goal.invariant-each
invariant-each l = l.list.items ++ (drop l.name-index l.names) ≡ l.names
