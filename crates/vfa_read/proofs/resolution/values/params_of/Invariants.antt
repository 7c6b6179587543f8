use Rattle.std.proofs.Common.{◌≡◌, ◌++◌, drop}
use Rattle.vfa_ir.specs.Resolution.{params_from}
use Rattle.vfa_read.proofs.resolution.values.params_of.Given as goal

abbrev pub invariant-each : goal.invariant-each
invariant-each l = l.list.items ++ params_from l.place (drop l.place l.parameters) ≡ params_from 0 l.parameters
