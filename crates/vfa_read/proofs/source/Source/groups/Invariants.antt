use Rattle.std.proofs.Common.{◌≡◌, length, drop}
use Rattle.vfa_read.specs.Productions.{groups}
use Rattle.vfa_read.specs.Seen.{all_of}
use Rattle.vfa_read.proofs.Loops.{with_prefix}
use Rattle.vfa_read.proofs.source.Source.groups.Given as goal

abbrev pub invariant-list : goal.invariant-list
invariant-list l = with_prefix l.list.items (groups (drop l.at (all_of l.self))) ≡ groups (drop l.from (all_of l.self))

abbrev pub decreases-list : goal.decreases-list
decreases-list l = length (drop l.at (all_of l.self))
