use Rattle.std.proofs.Common.{◌≡◌, ℕ, None, length}
use Rattle.std.specs.Prelude.{slice_index_or}
use Rattle.vfa_rewrite.proofs.putting_calls.no_calls.Given as goal

abbrev pub invariant-numbers : goal.invariant-numbers
invariant-numbers l = record {
  count : length l.calls.items ≡ l.counter;
  none : (k : ℕ) → slice_index_or l.calls.items k None ≡ None;
}
