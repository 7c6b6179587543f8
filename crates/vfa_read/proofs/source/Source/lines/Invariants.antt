use Rattle.std.proofs.Common.{◌≡◌, true, [], length, drop}
use Rattle.vfa_read.specs.Productions.{block_lines, lines}
use Rattle.vfa_read.specs.Seen.{all_of}
use Rattle.vfa_read.proofs.Accumulated.{add_lines, added, no_lines, one_line}
use Rattle.vfa_read.proofs.ItemLines.{Counted}
use Rattle.vfa_read.proofs.source.Source.lines.Given as goal

abbrev pub invariant-list : goal.invariant-list
invariant-list l =
    (added add_lines no_lines one_line l.list (lines l.phis (drop l.at (all_of l.self))) ≡ block_lines (drop l.from (all_of l.self)))
    × Counted l.self l.from l.at l.initial.numbers.items l.numbers.items l.list
    × (l.phis ≡ true → l.list.instructions ≡ [])

abbrev pub decreases-list : goal.decreases-list
decreases-list l = length (drop l.at (all_of l.self))
