use Rattle.vfa_rewrite.proofs.Chains.{left_on_walk}
use Rattle.vfa_rewrite.proofs.laws.left_blocks_are_walked_to.Goals as goal

pub returns : goal.returns
returns c f found b reached = left_on_walk f found b reached
