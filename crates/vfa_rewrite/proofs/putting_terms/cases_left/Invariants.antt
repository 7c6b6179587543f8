use Rattle.std.proofs.Common.{◌≡◌, ◌+◌, ◌++◌, false, drop}
use Rattle.std.specs.Prelude.{slice_index_or}
use Rattle.vfa_rewrite.specs.Rewritten.{cases_left}
use Rattle.vfa_rewrite.proofs.putting_terms.cases_left.Given as goal

abbrev pub invariant-each : goal.invariant-each
invariant-each l =
    l.all.items ++ cases_left (λ k. slice_index_or l.left k false) (l.k + 1) (drop l.k l.cases) ≡ cases_left (λ k. slice_index_or l.left k false) 1 l.cases
