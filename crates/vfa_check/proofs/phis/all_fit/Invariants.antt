use Rattle.std.proofs.Common.{◌≡◌, All, length, take}
use Rattle.vfa_check.specs.Predecessors.{AreClear, FitsPredecessors}
use Rattle.vfa_check.proofs.phis.all_fit.Given as goal

abbrev pub invariant-phis : goal.invariant-phis
invariant-phis l = record {
  each : length l.tallies.left.items ≡ length l.initial.tallies.left.items;
  clear : AreClear l.tallies.left.items l.tallies.operands.items;
  fit : All (λ p. FitsPredecessors l.predecessors p.entries) (take l.phi-index l.phis);
}
