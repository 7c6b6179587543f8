use Rattle.std.proofs.Common.{◌∙◌, ap, sym, length, ◌≤◌, ◌≡◌, arith}
use Rattle.std.specs.Option.{option_map}
use Rattle.std.proofs.Math.ListN.{drop_of_length-le}
use Rattle.vfa_ir.specs.PhisFit.{targets}
use Rattle.vfa_cfg.specs.Edges.{block_edges}
use Rattle.vfa_cond.specs.States.{known}
use Rattle.vfa_walk.proofs.Edges.{pair_begins, pair_more, pair_ends, none_from, edges_count}
use Rattle.vfa_cond.proofs.Fitting.{none_of}
use Rattle.vfa_walk.proofs.leaving.pair_from.Goals as goal

pub edges-init : goal.edges-init
edges-init g c = record {
  rest = pair_begins g.V.Values.answers c.args.f.now c.args.from.0 c.args.to.0 c.args.block.now c.requires.block (known c.args.end.now);
  state = none_of _;
}

pub edges-preserved : goal.edges-preserved
edges-preserved g c = record {
  rest = pair_more g.V.Values.answers c.args.f.now c.args.from.0 c.args.to.0 c.args.block.now c.requires.block (known c.args.end.now) c.edges.k c.in-Some.edge
      (option_map known c.edges.sum) (option_map known c.in_ok-sum.sum) (sym c.in-Some.ensures.edge) (ap (λ b. b.0) c.in-Some.ensures.from) c.edges.invariant.rest
      c.in_ok-sum.ensures.joined;
  state = c.in_ok-sum.ensures.state;
}

pub returns-in_default-clause-pair : goal.returns-in_default-clause-pair
returns-in_default-clause-pair g c =
    sym (pair_ends g.V.Values.answers c.args.f.now c.args.from.0 c.args.to.0 c.args.block.now c.requires.block (known c.args.end.now) c.edges.k (option_map known c.edges.sum)
    (none_from (block_edges c.args.from.0 c.args.block.now.term) c.edges.k (sym c.edge_at.ensures.edge ∙ c.in_default.is)) c.edges.invariant.rest)

pub returns-clause-pair : goal.returns-clause-pair
returns-clause-pair g c =
    let edges = block_edges c.args.from.0 c.args.block.now.term in
    let count : length edges ≡ length (targets c.args.block.now.term) = edges_count c.args.from.0 c.args.block.now.term in
    let past : length edges ≤ c.edges.k = omega (arith, count, c.edge_count-k-end.ensures, c.edges-test.false) in
    sym (pair_ends g.V.Values.answers c.args.f.now c.args.from.0 c.args.to.0 c.args.block.now c.requires.block (known c.args.end.now) c.edges.k (option_map known c.edges.sum)
    (drop_of_length-le edges past) c.edges.invariant.rest)
