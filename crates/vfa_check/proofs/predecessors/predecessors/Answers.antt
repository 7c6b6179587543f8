use Rattle.std.proofs.Common.{◌≡◌, ◌<◌, ◌∙◌, ◌+◌, ℕ, List, [], All, ap, arith, cond, get_or, length, subst, sym}
use Rattle.std.proofs.lemmas.List.{length-replicate, take_all}
use Rattle.vfa_ir.specs.declared.operations.BlockId.{BlockId}
use Rattle.vfa_cfg.specs.Edges.{edges_of}
use Rattle.vfa_cfg.specs.declared.listing.Edge.{Edge}
use Rattle.vfa_check.specs.Predecessors.{times, with_edge}
use Rattle.vfa_check.proofs.Counting.{count_next}
use Rattle.vfa_check.proofs.EdgeCounts.{all_counted, all_leave_within, counted_next, counted_none, joined, joins, length_next, no_edge, within_next, within_none}
use Rattle.vfa_check.proofs.predecessors.predecessors.Goals as goal

pub edges-init : goal.edges-init
edges-init c =
    let blocks = length c.as_slice.result.now in
    record {
      each = ap length c.in_ok-all.ensures ∙ length-replicate blocks [] ∙ ap length c.as_slice.ensures;
      counted = λ to from within. ap (λ all. times from (get_or all to [])) c.in_ok-all.ensures ∙ counted_none blocks from to;
      within = λ to. subst (λ all. All (λ (p : BlockId). p.0 < length c.args.f.now.blocks) (get_or all to [])) (sym c.in_ok-all.ensures)
          (within_none blocks (length c.args.f.now.blocks) to);
    }

pub edges-preserved : goal.edges-preserved
edges-preserved c =
    let f = c.args.f.now in
    let all : List (List BlockId) = c.edges.all.items in
    let i : ℕ = c.edges.edge-index in
    let same : c.as_slice-edge-items.result.now ≡ edges_of f = c.as_slice-edge-items.ensures.value ∙ c.in_ok-edges.ensures in
    let e : Edge = get_or (edges_of f) i no_edge in
    let inside : i < length (edges_of f) = subst (λ es. i < length es) same c.edges-test.true in
    let added : c.add.new.all.items ≡ with_edge e.from e.to all =
    subst (λ es. c.add.new.all.items ≡ with_edge (get_or es i no_edge).from (get_or es i no_edge).to all) same c.in_ok-add.ensures in
    let each : length all ≡ length f.blocks = c.edges.invariant.each in
    record {
      each = ap length added ∙ length_next all e ∙ each;
      counted = λ to from within.
          ap (λ l. times from (get_or l to [])) added ∙ counted_next all from to e (subst (λ n. to < n) (sym each) within)
          ∙ ap (λ n. n + cond (joins from to e) 1 0) (c.edges.invariant.counted to from within)
          ∙ sym (count_next (joins from to) (edges_of f) i no_edge inside);
      within = λ to. subst (λ l. All (λ (p : BlockId). p.0 < length f.blocks) (get_or l to [])) (sym added)
          (within_next (length f.blocks) all e to (all_leave_within f i no_edge inside) c.edges.invariant.within);
    }

pub returns : goal.returns
returns c =
    let past : length c.as_slice-edge-items.result.now ≡ length (edges_of c.args.f.now) = ap length (c.as_slice-edge-items.ensures.value ∙ c.in_ok-edges.ensures) in
    record {
      each = c.edges.invariant.each;
      edges = λ to from within. c.edges.invariant.counted to from within
          ∙ ap (joined from to) (take_all c.edges.edge-index (edges_of c.args.f.now) (omega arith)) ∙ all_counted c.args.f.now from to;
      within = c.edges.invariant.within;
    }
