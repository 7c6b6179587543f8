use Rattle.std.proofs.Common.{◌≡◌, take, map}
use Rattle.vfa_report.specs.Met.{MarksMore}
use Rattle.vfa_report.proofs.uses.Uses.mark_phis.Given as goal

abbrev pub invariant-phis : goal.invariant-phis
invariant-phis l = MarksMore l.initial.self.marks l.self.marks ((map (λ p. p.result.0)) (take l.phi-index l.phis)) × (l.self.names ≡ l.initial.self.names)
