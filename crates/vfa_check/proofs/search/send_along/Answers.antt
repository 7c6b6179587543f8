use Rattle.std.proofs.Common.{arith, sym}
use Rattle.std.proofs.lemmas.Option.{slice_get_within}
use Rattle.vfa_ir.specs.Walks.{successors}
use Rattle.vfa_check.proofs.Sending.{send_more, all_sent, edge_at}
use Rattle.vfa_check.proofs.search.send_along.Goals as goal

pub narrow-lost_here-requires-clause-to : goal.narrow-lost_here-requires-clause-to
narrow-lost_here-requires-clause-to c =
    c.requires.within.edges c.args.from.0 c.in-Some.to.0
    (edge_at c.args.f.now c.args.from.0 c.edges.k c.in-Some.to.0 c.in-Some.ensures.target)

pub edges-smaller : goal.edges-smaller
edges-smaller c =
    let inside = slice_get_within (successors c.args.f.now c.args.from.0) c.edges.k c.in-Some.to.0 (sym c.in-Some.ensures.target) in
    omega arith

pub edges-preserved : goal.edges-preserved
edges-preserved c =
    send_more c.args.f.now c.args.from.0 c.edges.k c.in-Some.to.0 c.args.flow.now c.edges.flow c.narrow-lost_here.new.flow c.edges.lost
    c.narrow-lost_here.result c.in-Some.ensures.target
    (c.requires.within.edges c.args.from.0 c.in-Some.to.0
    (edge_at c.args.f.now c.args.from.0 c.edges.k c.in-Some.to.0 c.in-Some.ensures.target))
    c.edges.invariant c.narrow-lost_here.ensures

pub returns-clause-flow : goal.returns-clause-flow
returns-clause-flow c =
    all_sent c.args.f.now c.args.from.0 c.edges.k c.edges.flow c.in_default.ensures.target c.edges.invariant.flow
