use Rattle.std.proofs.Common.{◌≡◌, ◌<◌, ℕ, length}
use Rattle.vfa_ir.specs.PhisFit.{PhisFitIn}
use Rattle.vfa_check.specs.Predecessors.{AreClear}
use Rattle.vfa_check.proofs.phis.first_misfit.Given as goal

abbrev pub invariant-each : goal.invariant-each
invariant-each l = record {
  each : length l.tallies.left.items ≡ length l.f.blocks;
  clear : AreClear l.tallies.left.items l.tallies.operands.items;
  before : (b : ℕ) → b < l.place → PhisFitIn l.f b;
}
