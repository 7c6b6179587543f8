use Rattle.std.proofs.Common.{◌≡◌, ◌≤◌, length, ap, ◌∙◌}
use Rattle.std.specs.Prelude.{slice_index_or}
use Rattle.std.proofs.lemmas.List.{length-set}
use Rattle.std.proofs.lemmas.List.Elements.{All-from_recursion}
use Rattle.vfa_ir.specs.declared.operations.BlockId.{BlockId}
use Rattle.vfa_ir.specs.declared.operations.Operand.{Operand}
use Rattle.vfa_mean.specs.Kept.{is_marked}
use Rattle.vfa_rewrite.specs.Making.{first_marks}
use Rattle.vfa_rewrite.specs.Rewritten.{edges_of}
use Rattle.vfa_rewrite.proofs.PhisPut.{all_counted, one_counted, within_now}
use Rattle.vfa_rewrite.proofs.putting_phis.count_entries.Goals as goal

pub set_count-requires : goal.set_count-requires
set_count-requires c = within_now c.args.entries.now _ _ c.requires.within c.each.invariant.count c.each.entry-index _ c.each-test.true

pub each-preserved : goal.each-preserved
each-preserved c = record {
  count = ap length c.set_count.ensures ∙ (length-set c.each.left.items _ _ ∙ c.each.invariant.count);
  counted = λ found are. one_counted (edges_of c.args.f.now (first_marks c.args.f.now found (is_marked c.args.reached.now)) c.args.to.0) c.args.entries.now c.each.entry-index c.each.left.items
      c.set_count.new.left.items _ c.set_count.ensures (c.each.invariant.counted found are) c.each-test.true
      (within_now c.args.entries.now _ _ c.requires.within c.each.invariant.count c.each.entry-index _ c.each-test.true) (c.edges_to.ensures found are);
}

pub returns-clause-left : goal.returns-clause-left
returns-clause-left c = λ found are.
    let past : length c.args.entries.now ≤ c.each.entry-index = c.each-test.false in
    All-from_recursion (λ (e : Operand × BlockId). slice_index_or c.each.left.items e.1.0 0 ≡ edges_of c.args.f.now (first_marks c.args.f.now found (is_marked c.args.reached.now)) c.args.to.0 e.1.0) c.args.entries.now
    (all_counted (edges_of c.args.f.now (first_marks c.args.f.now found (is_marked c.args.reached.now)) c.args.to.0) c.args.entries.now c.each.entry-index c.each.left.items (c.each.invariant.counted found are) past)
