use Rattle.std.proofs.Common.{◌∙◌, ap, arith}
use Rattle.std.specs.Prelude.{slice_set}
use Rattle.std.proofs.lemmas.List.Edits.{map_over_more}
use Rattle.vfa_mean.specs.Kept.{is_marked}
use Rattle.vfa_bits.specs.Narrowed.{block_left}
use Rattle.vfa_bits.proofs.leaving.keep_blocks.Goals as goal

pub each-preserved : goal.each-preserved
each-preserved c =
    let below = c.each-test.true in
    let count = c.len-number-end.ensures in
    let whole = c.args.blocks.now.ok.0 in
    ap (slice_set c.each.blocks.items c.each.number) c.keep_in.ensures
    ∙ map_over_more (block_left (is_marked c.args.used.now)) c.args.blocks.now.items c.each.blocks.items c.each.number c.index_mut.result.now
    (omega (arith, below, count, whole)) c.each.invariant c.index_mut.ensures.value
