use Rattle.std.proofs.Common.{◌≡◌, ◌++◌, drop, map}
use Rattle.vfa_ir.specs.Resolution.{parameter_value}
use Rattle.vfa_read.proofs.resolution.values.push_parameters.Given as goal

abbrev pub invariant-each : goal.invariant-each
invariant-each l = l.values.items ++ map parameter_value (drop l.parameter-index l.parameters) ≡ l.initial.values.items ++ map parameter_value l.parameters
