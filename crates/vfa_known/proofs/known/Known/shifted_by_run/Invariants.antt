use Rattle.std.specs.Prelude.{◌-◌, ◌≤◌}
use Rattle.vfa_dom.specs.Results.{images}
use Rattle.vfa_known.specs.AmountRuns.{AreKnownOverRun}
use Rattle.vfa_known.specs.Known.{masks_of, in_known}
use Rattle.vfa_known.specs.Shift.{shift_of}
use Rattle.vfa_known.proofs.known.Known.shifted_by_run.Given as goal

abbrev pub invariant-loop-done : goal.invariant-loop-done
invariant-loop-done g l =
    AreKnownOverRun g.row.W (λ t. images g.row.W (λ x. shift_of l.shift g.row.W x t) (in_known g.row.W l.self)) l.run.first l.done (masks_of l.all)
    × (1 ≤ l.done) × (l.done ≤ l.run.count)

abbrev pub decreases-loop-done : goal.decreases-loop-done
decreases-loop-done g l = l.run.count - l.done
