use Rattle.std.proofs.Common.{◌<◌, ◌∙◌, length, sym, arith}
use Rattle.std.specs.Prelude.{slice_index_or}
use Rattle.vfa_ir.specs.declared.operations.Operand.{Operand}
use Rattle.vfa_rewrite.proofs.PhisPut.{entry_gone, entry_kept}
use Rattle.vfa_rewrite.proofs.putting_phis.keep_entries.Goals as goal

pub each-preserved-then-not-take_edge : goal.each-preserved-then-not-take_edge
each-preserved-then-not-take_edge c =
    let inside : c.each.j < length c.args.put.now = omega (arith, c.each-test.true, c.requires.count) in
    let gone = sym c.take_edge.ensures.some ∙ c.if-not-take_edge.true in
    record {
      count = c.take_edge.ensures.count ∙ c.each.invariant.count;
      kept = entry_gone c.args.entries.now c.args.put.now c.each.j _ Operand.Poison c.each-test.true inside (λ p. slice_index_or c.each.left.items p 0) (λ p. slice_index_or c.take_edge.new.left.items p 0)
          c.take_edge.ensures.left c.each.all.items _ c.each.invariant.kept gone;
    }

pub each-preserved : goal.each-preserved
each-preserved c =
    let inside : c.each.j < length c.args.put.now = omega (arith, c.each-test.true, c.requires.count) in
    let kept = sym c.take_edge.ensures.some ∙ c.if-not-take_edge.false in
    record {
      count = c.take_edge.ensures.count ∙ c.each.invariant.count;
      kept = entry_kept c.args.entries.now c.args.put.now c.each.j _ _ c.each-test.true inside (λ p. slice_index_or c.each.left.items p 0) (λ p. slice_index_or c.take_edge.new.left.items p 0)
          c.take_edge.ensures.left c.each.all.items _ c.each.invariant.kept kept _ c.in_ok-push.ensures.ok;
    }
