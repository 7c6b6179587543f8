use Rattle.vfa_walk.proofs.Readied.{function_ready}
use Rattle.vfa_rewrite.proofs.ready.checked_is_ready.Goals as goal

pub returns : goal.returns
returns c = function_ready
