use Rattle.std.proofs.Common.{◌≡◌, ◌∷◌, length, drop}
use Rattle.vfa_read.specs.Headers.{parameter}
use Rattle.vfa_read.specs.Productions.{after_commas}
use Rattle.vfa_read.specs.Readers.{made}
use Rattle.vfa_read.specs.Seen.{all_of}
use Rattle.vfa_read.proofs.Loops.{with_prefix}
use Rattle.vfa_read.proofs.source.Source.parameters_after.Given as goal

abbrev pub invariant-list : goal.invariant-list
invariant-list l = with_prefix l.list.items (after_commas parameter (drop l.at (all_of l.self))) ≡ made (λ more. l.fn.first ∷ more) (after_commas parameter) (drop l.from (all_of l.self))

abbrev pub decreases-list : goal.decreases-list
decreases-list l = length (drop l.at (all_of l.self))
