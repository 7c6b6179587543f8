use Rattle.vfa_demand.proofs.Searching.{IsSearch, room}
use Rattle.vfa_demand.proofs.reach.led_to.Given as goal

abbrev pub invariant-steps : goal.invariant-steps
invariant-steps l = IsSearch l.first l.leads l.search.marks.items l.search.ahead.items

abbrev pub decreases-steps : goal.decreases-steps
decreases-steps l = room l.search.marks.items l.search.ahead.items
