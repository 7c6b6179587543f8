use Rattle.std.proofs.Common.{◌≡◌, [], replicate}
use Rattle.vfa_bits.proofs.changes.no_users.Given as goal

abbrev pub invariant-rows : goal.invariant-rows
invariant-rows l = l.users.items ≡ replicate l.counter []
