use Rattle.std.proofs.Common.{arith, length-set, ◌∙◌}
use Rattle.std.proofs.lemmas.Option.{slice_get_within}
use Rattle.std.proofs.Common.{ap, sym, length}
use Rattle.vfa_ir.specs.Walks.{successors}
use Rattle.vfa_cfg.proofs.Marks.{mark_step, all_marked}
use Rattle.vfa_cfg.proofs.loops.mark_successors.Goals as goal

pub edges-preserved : goal.edges-preserved
edges-preserved c =
    let xs = successors c.args.f.now c.args.from.0 in
    let within = slice_get_within xs c.edges.k c.in-Some.to.0 (sym c.in-Some.ensures.target) in
    let same = c.edges.invariant.1 in (
      omega arith,
      ap length c.mark.ensures ∙ length-set c.edges.marks.items c.in-Some.to.0 _ ∙ same,
      λ b l. rw c.mark.ensures
          (mark_step c.edges.marks.items xs c.edges.k c.in-Some.to.0 b _ c.in-Some.ensures.target (omega arith) (c.edges.invariant.2 b l)),
    )

pub returns-clause-marks : goal.returns-clause-marks
returns-clause-marks c = λ b l.
    all_marked c.edges.marks.items (successors c.args.f.now c.args.from.0) c.edges.k b _ c.in_default.ensures.target (c.edges.invariant.2 b l)
