use Rattle.std.proofs.Common.{◌≡◌, ◌++◌, drop, length}
use Rattle.std.specs.Prelude.{slice_index_or}
use Rattle.vfa_rewrite.specs.Putting.{entries_of}
use Rattle.vfa_rewrite.proofs.putting_phis.keep_entries.Given as goal

abbrev pub invariant-each : goal.invariant-each
invariant-each l = record {
  count : length l.left.items ≡ length l.initial.left.items;
  kept : l.all.items ++ entries_of (drop l.j l.entries) (drop l.j l.put) (λ p. slice_index_or l.left.items p 0)
      ≡ entries_of l.entries l.put (λ p. slice_index_or l.initial.left.items p 0);
}
