use Rattle.std.proofs.Common.{◌≡◌, ◌++◌}
use Rattle.vfa_rewrite.specs.Expanding.{added_by}
use Rattle.vfa_rewrite.proofs.widths.push_added.Given as goal

abbrev pub invariant-names : goal.invariant-names
invariant-names l = l.values.items ≡ l.initial.values.items ++ added_by l.widths l.n
