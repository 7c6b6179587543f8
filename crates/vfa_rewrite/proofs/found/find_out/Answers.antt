use Rattle.std.proofs.Common.{sym, subst}
use Rattle.vfa_walk.specs.Kept.{AreStates}
use Rattle.vfa_xfer.specs.AnyFacts.{fact_type, IsAnyFact}
use Rattle.vfa_rewrite.proofs.found.find_out.Goals as goal

pub found_blocks-requires-clause-states : goal.found_blocks-requires-clause-states
found_blocks-requires-clause-states c = subst (λ g. AreStates fact_type IsAnyFact g c.args.table.now) (sym c.ready-f.ensures.same) c.requires
