use Rattle.std.proofs.Common.{map, take}
use Rattle.vfa_check.proofs.Adding.{AreAdded}
use Rattle.vfa_check.proofs.results.add_phis.Given as goal

abbrev pub invariant-phis : goal.invariant-phis
invariant-phis l = AreAdded (map (λ p. p.result.0) (take l.phi-index l.phis)) l.initial.row l.row
