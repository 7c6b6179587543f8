use Rattle.std.proofs.Common.{◌≡◌, ◌≤◌, ◌+◌, false, drop}
use Rattle.std.specs.Prelude.{slice_index_or}
use Rattle.vfa_ir.specs.PhisFit.{targets}
use Rattle.vfa_rewrite.specs.Rewritten.{edges_from}
use Rattle.vfa_rewrite.proofs.putting_phis.count_left.Given as goal

abbrev pub invariant-edges : goal.invariant-edges
invariant-edges l = record {
  few : l.count ≤ l.k;
  counted : l.count + edges_from (λ k. slice_index_or l.left k false) l.to.0 l.k (drop l.k (targets l.block.term))
      ≡ edges_from (λ k. slice_index_or l.left k false) l.to.0 0 (targets l.block.term);
}
