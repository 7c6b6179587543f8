use Rattle.std.proofs.Common.{◌≡◌, ◌-◌, Some, sym, subst}
use Rattle.std.specs.Prelude.{slice_get}
use Rattle.vfa_ir.specs.declared.functions.Term.{Term}
use Rattle.vfa_ir.specs.PhisFit.{targets}
use Rattle.vfa_cfg.specs.declared.listing.Way.{Way}
use Rattle.vfa_cfg.specs.Edges.{block_edges, edge}
use Rattle.vfa_rewrite.proofs.OutEdges.{switch_edge}
use Rattle.vfa_rewrite.proofs.edges.way_of.Goals as goal

pub returns-else-k-eq0-2 : goal.returns-else-k-eq0-2
returns-else-k-eq0-2 c = λ from to.
    let k = c.args.k in
    subst (λ (t : Term). slice_get (targets t) k ≡ Some to → slice_get (block_edges from t) k ≡ Some (edge from to (Way.Case (k - 1)))) (sym c.in-Switch.is)
    (switch_edge from c.in-Switch.other _ k to c.if-k-eq0-2.false)
