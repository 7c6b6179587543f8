use Rattle.std.proofs.Common.{◌<◌, ◌≤◌, ◌+◌, ℕ, Bool, false, drop, length, ap, ◌∙◌, arith}
use Rattle.std.specs.Prelude.{slice_index_or}
use Rattle.vfa_ir.specs.PhisFit.{targets}
use Rattle.vfa_rewrite.specs.Rewritten.{edges_from}
use Rattle.vfa_rewrite.proofs.PhisPut.{count_all, count_more, edge_most}
use Rattle.vfa_rewrite.proofs.putting_phis.count_left.Goals as goal

pub edges-preserved : goal.edges-preserved
edges-preserved c =
    let left : ℕ → Bool = λ k. slice_index_or c.args.left.now k false in
    let ts = targets c.args.block.now.term in
    let most = edge_most c.has_left.result c.leads_to.result c.edges.count in
    let is = c.one_more-count.ensures in
    let few = c.edges.invariant.few in
    let less : c.edges.k < length ts = omega (arith, c.edges-test.true, c.edge_count-k-end.ensures) in
    record {
      few = omega (arith, is, most, few);
      counted = ap (λ n. n + edges_from left c.args.to.0 (c.edges.k + 1) (drop (c.edges.k + 1) ts)) is
          ∙ count_more c.args.f.now c.args.from.0 c.args.to.0 c.edges.k c.edges.count c.args.block.now left c.has_left.result c.leads_to.result c.requires less
          c.has_left.ensures c.leads_to.ensures _ c.edges.invariant.counted;
    }

pub returns : goal.returns
returns c =
    let past : length (targets c.args.block.now.term) ≤ c.edges.k = omega (arith, c.edges-test.false, c.edge_count-k-end.ensures) in
    count_all (λ k. slice_index_or c.args.left.now k false) c.args.to.0 c.edges.k c.edges.count (targets c.args.block.now.term) past _ c.edges.invariant.counted
