use Rattle.std.proofs.Common.{◌≡◌}
use Rattle.std.specs.List.{AllByRecursion, flat_map}
use Rattle.vfa_par.specs.Pieces.{IsDone, results_of}
use Rattle.vfa_par.proofs.pieces.joined.Given as goal

abbrev pub invariant-pieces : goal.invariant-pieces
invariant-pieces g l = (l.all.items ≡ flat_map results_of l.yielded) × AllByRecursion IsDone l.yielded
