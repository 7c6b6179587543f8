use Rattle.std.proofs.Common.{◌≡◌, length, drop, map}
use Rattle.vfa_read.specs.Productions.{words_among}
use Rattle.vfa_read.specs.Seen.{all_of}
use Rattle.vfa_read.proofs.Loops.{with_prefix}
use Rattle.vfa_read.proofs.source.Source.words_among.Given as goal

abbrev pub invariant-list : goal.invariant-list
invariant-list l =
    with_prefix l.list.items (words_among (map (λ w. w.now) l.words) (drop l.at (all_of l.self)))
    ≡ words_among (map (λ w. w.now) l.words) (drop l.from (all_of l.self))

abbrev pub decreases-list : goal.decreases-list
decreases-list l = length (drop l.at (all_of l.self))
