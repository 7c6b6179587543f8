use Rattle.std.proofs.Common.{false}
use Rattle.std.specs.Prelude.{slice_index_or}
use Rattle.vfa_ir.specs.Words.{is_in}
use Rattle.vfa_rewrite.proofs.NamesUsed.{marked_more}
use Rattle.vfa_rewrite.proofs.uses.marked.Goals as goal

pub each-preserved : goal.each-preserved
each-preserved c n =
    marked_more c.args.names.now c.each.name-index 0 n (slice_index_or c.each.marks.items n false) (slice_index_or c.mark.new.marks.items n false) (is_in n c.args.names.now)
    c.each-test.true (c.each.invariant n) (c.in_ok-mark.ensures n)
