use Rattle.vfa_rewrite.proofs.Lockstep.{refines}
use Rattle.vfa_rewrite.proofs.laws.rewriting_refines.Goals as goal

pub returns : goal.returns
returns c = refines
