use Rattle.std.proofs.Common.{flat_map, take}
use Rattle.vfa_demand.specs.Behind.{ArePut, behind_phi}
use Rattle.vfa_demand.proofs.behind.put_phis.Given as goal

abbrev pub invariant-each : goal.invariant-each
invariant-each l = ArePut (λ v. flat_map (λ p. behind_phi p v) (take l.phi-index l.phis)) l.initial.all.items l.all.items
