use Rattle.vfa_opt.proofs.OneOptimised.{optimised_one}
use Rattle.vfa_opt.proofs.optimised.one_optimised.Goals as goal

pub returns : goal.returns
returns c f g g' checked o o' = optimised_one c.one_rewritten.ensures c.one_narrowed.ensures f g g' checked (c.fit_is_printable.ensures f checked.fit) o o'
