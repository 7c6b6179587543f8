use Rattle.std.proofs.Common.{◌≡◌, All, length, take}
use Rattle.vfa_check.specs.Predecessors.{HasSource}
use Rattle.vfa_check.proofs.tallies.write.Given as goal

abbrev pub invariant-entries : goal.invariant-entries
invariant-entries l = record {
  each : length l.operands.items ≡ length l.initial.operands.items;
  written : All (HasSource (take l.entry-index l.entries) l.operands.items) (take l.entry-index l.entries);
}
