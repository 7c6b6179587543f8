use Rattle.std.proofs.Common.{◌≡◌, ◌++◌, drop, flat_map}
use Rattle.vfa_ir.specs.declared.operations.Operand.{Operand}
use Rattle.vfa_walk.specs.Landmarks.{literal_of}
use Rattle.vfa_walk.proofs.landmarks.add_cases.Given as goal

abbrev pub invariant-cases : goal.invariant-cases
invariant-cases l = l.initial.marks.items ++ flat_map (λ c. literal_of l.width l.own (Operand.Literal c.0)) l.cases ≡ l.marks.items ++ flat_map (λ c. literal_of l.width l.own (Operand.Literal c.0)) (drop l.case-index l.cases)
