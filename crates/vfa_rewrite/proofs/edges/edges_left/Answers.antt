use Rattle.std.proofs.Common.{◌≤◌, ◌+◌, length, sym, subst, arith}
use Rattle.vfa_ir.specs.PhisFit.{targets}
use Rattle.vfa_cond.specs.States.{known}
use Rattle.vfa_rewrite.proofs.OutEdges.{AreLeftBelow, all_edges, one_edge_more}
use Rattle.vfa_rewrite.proofs.edges.edges_left.Goals as goal

pub edges-preserved : goal.edges-preserved
edges-preserved c =
    let s = known c.args.end.now in
    subst (AreLeftBelow c.args.f.now c.args.b.0 s (c.edges.k + 1)) (sym c.in_ok-push.ensures.items)
    (one_edge_more c.args.f.now c.args.b.0 s c.edges.k c.edges.left.items c.in_ok-is_left.is_left c.edges.invariant c.in_ok-is_left.ensures)

pub returns : goal.returns
returns c =
    let all : length (targets c.args.block.now.term) ≤ c.edges.k = omega (arith, c.edges-test.false, c.edge_count-k-end.ensures) in
    all_edges c.args.f.now c.args.b.0 c.args.block.now c.requires.block (known c.args.end.now) c.edges.k c.edges.left.items c.edges.invariant all
