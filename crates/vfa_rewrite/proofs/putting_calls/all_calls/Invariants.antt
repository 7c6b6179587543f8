use Rattle.std.proofs.Common.{◌≡◌, ◌++◌, None, drop, unwrap_or}
use Rattle.std.specs.Prelude.{slice_index_or}
use Rattle.vfa_rewrite.specs.Rewritten.{with_numbers}
use Rattle.vfa_rewrite.proofs.putting_calls.all_calls.Given as goal

abbrev pub invariant-each : goal.invariant-each
invariant-each l =
    l.all.items ++ with_numbers (λ k call. unwrap_or (slice_index_or l.made k None) call) l.k (drop l.k l.f.calls)
    ≡ with_numbers (λ k call. unwrap_or (slice_index_or l.made k None) call) 0 l.f.calls
