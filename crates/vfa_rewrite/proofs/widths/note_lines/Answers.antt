use Rattle.std.proofs.Common.{◌∙◌, None}
use Rattle.std.specs.Prelude.{slice_index_or}
use Rattle.vfa_rewrite.specs.Making.{width_by}
use Rattle.vfa_rewrite.proofs.Noting.{line_noted}
use Rattle.vfa_rewrite.proofs.widths.note_lines.Goals as goal

pub each-preserved : goal.each-preserved
each-preserved c = record {
  count = c.note_line.ensures.count ∙ c.each.invariant.count;
  noted = λ found b are n.
      line_noted width_by found b n c.args.insts.now c.args.lines.now c.each.i _ are c.each-test.true c.line_at.result c.line_at.ensures
      (slice_index_or c.each.widths.items n None) (slice_index_or c.note_line.new.widths.items n None) _ (c.note_line.ensures.widths n) (c.each.invariant.noted found b are n);
}
