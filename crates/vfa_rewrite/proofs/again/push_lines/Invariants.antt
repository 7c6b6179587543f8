use Rattle.std.proofs.Common.{◌≡◌, ◌+◌, length}
use Rattle.vfa_rewrite.proofs.again.push_lines.Given as goal

abbrev pub invariant-each : goal.invariant-each
invariant-each l = length l.lines.items ≡ length l.initial.lines.items + l.counter
