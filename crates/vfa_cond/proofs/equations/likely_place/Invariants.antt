use Rattle.std.proofs.Common.{◌≤◌, ◌-◌}
use Rattle.vfa_cond.proofs.equations.likely_place.Given as goal

abbrev pub invariant-halves : goal.invariant-halves
invariant-halves g l = l.place ≤ l.end

abbrev pub decreases-halves : goal.decreases-halves
decreases-halves g l = l.end - l.place
