use Rattle.std.proofs.Common.{map, take}
use Rattle.vfa_check.proofs.Adding.{AreAdded}
use Rattle.vfa_check.proofs.results.add_parameters.Given as goal

abbrev pub invariant-params : goal.invariant-params
invariant-params l = AreAdded (map (λ p. p.value.0) (take l.param-index l.params)) l.initial.row l.row
