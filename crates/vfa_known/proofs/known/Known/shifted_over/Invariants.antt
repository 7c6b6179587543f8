use Rattle.vfa_dom.specs.Results.{images}
use Rattle.vfa_known.specs.Known.{in_known}
use Rattle.vfa_known.specs.Shift.{shift_of}
use Rattle.vfa_known.proofs.Amounts.{IsMeetOver, HasSeenLeast}
use Rattle.vfa_known.proofs.known.Known.shifted_over.Given as goal

abbrev pub invariant-loop-left : goal.invariant-loop-left
invariant-loop-left g l =
    IsMeetOver g.row.W (λ t. images g.row.W (λ x. shift_of l.shift g.row.W x t) (in_known g.row.W l.self)) l.amounts l.left l.all.zeros l.all.ones
    × HasSeenLeast l.amounts l.left

abbrev pub decreases-loop-left : goal.decreases-loop-left
decreases-loop-left g l = l.left
