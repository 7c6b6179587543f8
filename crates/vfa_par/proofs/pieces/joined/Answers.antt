use Rattle.vfa_par.proofs.InOrder.{joined_next}
use Rattle.vfa_par.proofs.pieces.joined.Goals as goal

pub pieces-preserved : goal.pieces-preserved
pieces-preserved g c =
    joined_next c.pieces.yielded c.in-Some.piece c.in_ok-results.results c.pieces.all.items c.append.new.self.items c.in_ok-results.was c.in_ok-append.ensures.items c.pieces.invariant
