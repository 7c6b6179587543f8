use Rattle.std.proofs.Common.{flat_map, take}
use Rattle.vfa_demand.specs.Behind.{ArePut, behind_in}
use Rattle.vfa_demand.proofs.behind.names_behind.Given as goal

abbrev pub invariant-each : goal.invariant-each
invariant-each l = ArePut (λ v. flat_map (λ b. behind_in l.f b v) (take l.block-index l.f.blocks)) l.initial.all.items l.all.items
