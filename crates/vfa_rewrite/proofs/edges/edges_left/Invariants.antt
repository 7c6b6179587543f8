use Rattle.vfa_cond.specs.States.{known}
use Rattle.vfa_rewrite.proofs.OutEdges.{AreLeftBelow}
use Rattle.vfa_rewrite.proofs.edges.edges_left.Given as goal

abbrev pub invariant-edges : goal.invariant-edges
invariant-edges l = AreLeftBelow l.f l.b.0 (known l.end) l.k l.left.items
