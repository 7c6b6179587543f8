use Rattle.std.proofs.Common.{◌≡◌, ◌∷◌, length, drop}
use Rattle.vfa_read.specs.Productions.{further_blocks}
use Rattle.vfa_read.specs.Readers.{made}
use Rattle.vfa_read.specs.Seen.{all_of}
use Rattle.vfa_read.proofs.CountedBlocks.{BlocksCounted}
use Rattle.vfa_read.proofs.Loops.{with_prefix}
use Rattle.vfa_read.proofs.source.Source.blocks_after.Given as goal

abbrev pub invariant-list : goal.invariant-list
invariant-list l =
    (with_prefix l.list.items (further_blocks (drop l.at (all_of l.self))) ≡ made (λ more. l.fn.first ∷ more) further_blocks (drop l.from (all_of l.self)))
    × BlocksCounted l.self l.from l.at l.initial.lines.items l.lines.items l.fn.first l.list.items

abbrev pub decreases-list : goal.decreases-list
decreases-list l = length (drop l.at (all_of l.self))
