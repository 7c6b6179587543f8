use Rattle.std.proofs.Common.{◌≡◌, drop}
use Rattle.vfa_mean.specs.Outcomes.{has_noundef}
use Rattle.vfa_walk.proofs.definitions.has_noundef.Given as goal

abbrev pub invariant-words : goal.invariant-words
invariant-words l = has_noundef (drop l.word-index l.words) ≡ has_noundef l.words
