use Rattle.std.proofs.Common.{◌≡◌, ◌≤◌, ◌+◌, length, drop, filter_map}
use Rattle.vfa_read.proofs.resolution.limits.result_count.Given as goal

abbrev pub invariant-each : goal.invariant-each
invariant-each l =
    (l.count ≤ l.instruction-index)
    × (l.count + length (filter_map (λ i. i.result) (drop l.instruction-index l.instructions)) ≡ length (filter_map (λ i. i.result) l.instructions))
