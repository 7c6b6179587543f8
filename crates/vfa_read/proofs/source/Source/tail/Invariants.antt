use Rattle.std.proofs.Common.{length, drop}
use Rattle.vfa_read.specs.Seen.{all_of}
use Rattle.vfa_read.proofs.TailPlaces.{Reached}
use Rattle.vfa_read.proofs.source.Source.tail.Given as goal

abbrev pub invariant-tail : goal.invariant-tail
invariant-tail l = Reached (all_of l.self) l.from l.at l.depth

abbrev pub decreases-tail : goal.decreases-tail
decreases-tail l = length (drop l.at (all_of l.self))
