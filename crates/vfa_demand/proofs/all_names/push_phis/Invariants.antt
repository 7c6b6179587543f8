use Rattle.std.proofs.Common.{◌≡◌, ◌++◌, drop, flat_map}
use Rattle.vfa_demand.specs.Behind.{phi_names}
use Rattle.vfa_demand.proofs.all_names.push_phis.Given as goal

abbrev pub invariant-each : goal.invariant-each
invariant-each l = l.initial.names.items ++ flat_map phi_names l.phis ≡ l.names.items ++ flat_map phi_names (drop l.phi-index l.phis)
