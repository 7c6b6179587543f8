use Rattle.std.proofs.Common.{◌≡◌, [], replicate}
use Rattle.vfa_demand.proofs.definitions.none_yet.Given as goal

abbrev pub invariant-rows : goal.invariant-rows
invariant-rows l = l.all.items ≡ replicate l.counter []
