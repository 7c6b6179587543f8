use Rattle.std.proofs.Common.{◌≡◌, ◌<◌, ◌+◌, ℕ, All, get_or, length, take}
use Rattle.vfa_check.specs.Predecessors.{times_named}
use Rattle.vfa_check.proofs.tallies.take_off.Given as goal

abbrev pub invariant-entries : goal.invariant-entries
invariant-entries l = record {
  each : length l.left.items ≡ length l.initial.left.items;
  within : All (λ e. e.1.0 < length l.initial.left.items) (take l.entry-index l.entries);
  taken : (b : ℕ) → get_or l.left.items b 0 + times_named b (take l.entry-index l.entries) ≡ get_or l.initial.left.items b 0;
}
