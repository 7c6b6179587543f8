-- How many workers a command of some words has.
use Rattle.std.proofs.Common.{ℕ, ◌≤◌, List, [], ◌∷◌, Option, Some, None, arith}
use Rattle.vfa.specs.declared.command.Command.{Command}
use Rattle.vfa.specs.Command.{AreCommand, AreWorkers, HasWorkers, most_workers, options, values_of, workers_name}

has_workers_of : (values : List (Option (List ℕ))) (n : ℕ) → AreWorkers values n → (1 ≤ n) × (n ≤ most_workers)
has_workers_of [] n are = omega (arith, are)
has_workers_of (None ∷ values) n are = absurd are
has_workers_of (Some digits ∷ []) n are = (are.least, are.most)
has_workers_of (Some digits ∷ (v ∷ values)) n are = absurd are

pub command_workers : (words : List (List ℕ)) (command : Command) → AreCommand words command → HasWorkers command
command_workers words command is = has_workers_of (values_of workers_name (options words)) command.workers is.workers
