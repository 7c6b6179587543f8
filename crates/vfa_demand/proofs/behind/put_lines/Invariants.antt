use Rattle.std.proofs.Common.{flat_map, take}
use Rattle.vfa_demand.specs.Behind.{ArePut, behind_line}
use Rattle.vfa_demand.proofs.behind.put_lines.Given as goal

abbrev pub invariant-each : goal.invariant-each
invariant-each l = ArePut (λ v. flat_map (λ i. behind_line l.f i v) (take l.inst-index l.insts)) l.initial.all.items l.all.items
