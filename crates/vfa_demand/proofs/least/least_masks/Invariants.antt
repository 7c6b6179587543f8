use Rattle.std.proofs.Common.{[]}
use Rattle.vfa_demand.specs.Steps.{IsSearched, left_of}
use Rattle.vfa_demand.proofs.least.least_masks.Given as goal

abbrev pub invariant-names : goal.invariant-names
invariant-names l = IsSearched l.f [] l.growing.bits.items l.growing.waits.items l.growing.ahead.items

abbrev pub decreases-names : goal.decreases-names
decreases-names l = left_of l.growing.bits.items l.growing.ahead.items
