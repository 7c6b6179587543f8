use Rattle.std.proofs.Common.{◌≡◌, ◌++◌, drop, map}
use Rattle.vfa_ir.specs.Resolution.{phi_value}
use Rattle.vfa_read.proofs.resolution.values.push_phis.Given as goal

abbrev pub invariant-each : goal.invariant-each
invariant-each l = l.values.items ++ map phi_value (drop l.phi-index l.phis) ≡ l.initial.values.items ++ map phi_value l.phis
