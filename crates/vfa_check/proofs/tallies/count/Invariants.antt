use Rattle.std.proofs.Common.{◌≡◌, ℕ, get_or, length, take}
use Rattle.vfa_check.specs.Predecessors.{times}
use Rattle.vfa_check.proofs.tallies.count.Given as goal

abbrev pub invariant-predecessors : goal.invariant-predecessors
invariant-predecessors l = record {
  each : length l.left.items ≡ length l.initial.left.items;
  counted : (b : ℕ) → get_or l.left.items b 0 ≡ times b (take l.from-index l.predecessors);
}
