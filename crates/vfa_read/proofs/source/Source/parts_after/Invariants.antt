use Rattle.std.proofs.Common.{◌≡◌, true, length, drop}
use Rattle.vfa_read.specs.Items.{parts_after}
use Rattle.vfa_read.specs.Productions.{phi_parts}
use Rattle.vfa_read.specs.Readers.{made}
use Rattle.vfa_read.specs.Seen.{all_of}
use Rattle.vfa_read.proofs.Accumulated.{add_parts, added, no_parts, one_part}
use Rattle.vfa_read.proofs.source.Source.parts_after.Given as goal

abbrev pub invariant-list : goal.invariant-list
invariant-list l =
    added add_parts no_parts one_part l.parts (phi_parts l.width l.operands (drop l.at (all_of l.self)))
    ≡ made (parts_after l.fn.first) (phi_parts l.width true) (drop l.from (all_of l.self))

abbrev pub decreases-list : goal.decreases-list
decreases-list l = length (drop l.at (all_of l.self))
