use Rattle.std.proofs.Common.{◌≡◌}
use Rattle.std.specs.List.{filter, range_with_len}
use Rattle.vfa_mean.specs.Kept.{is_marked}
use Rattle.vfa_mean.proofs.kept.kept_numbers.Given as goal

abbrev pub invariant-each : goal.invariant-each
invariant-each l =
    l.numbers.items ≡ filter (is_marked l.keeps) (range_with_len 0 l.number)
