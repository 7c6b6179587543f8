use Rattle.std.proofs.Common.{◌∙◌, false, length, refl, ap, arith}
use Rattle.std.specs.Prelude.{slice_index_or}
use Rattle.std.proofs.lemmas.Option.{slice_get_read, slice_get_within}
use Rattle.vfa_mean.specs.Kept.{is_marked}
use Rattle.vfa_walk.specs.Kept.{kept_entries}
use Rattle.vfa_rewrite.specs.ByFacts.{findings_of}
use Rattle.vfa_rewrite.proofs.BlocksPut.{block_is}
use Rattle.vfa_rewrite.proofs.Noting.{block_lines}
use Rattle.vfa_rewrite.proofs.putting.put_reached.Goals as goal

pub put_lines-requires-clause-lines : goal.put_lines-requires-clause-lines
put_lines-requires-clause-lines c =
    let f = c.args.f.now in
    let b = c.args.b.0 in
    let kept = c.args.kept.now in
    let inside = slice_get_within f.blocks b c.args.block.now c.requires.block in
    let stands = slice_get_read kept (length kept) b _ refl (omega (arith, inside, c.requires.kept.count)) c.index-kept-b.is in
    block_lines f kept (findings_of f (kept_entries c.args.table.now)) c.requires.kept b c.args.block.now c.requires.block _ stands c.args.block.now.insts refl c.as_slice.result.now
    c.as_slice.ensures.value

pub put_end-requires-clause-left : goal.put_end-requires-clause-left
put_end-requires-clause-left c = λ k.
    let f = c.args.f.now in
    let b = c.args.b.0 in
    let kept = c.args.kept.now in
    let inside = slice_get_within f.blocks b c.args.block.now c.requires.block in
    let stands = slice_get_read kept (length kept) b _ refl (omega (arith, inside, c.requires.kept.count)) c.index-kept-b.is in
    ap (λ l. slice_index_or l k false) c.as_slice-2.ensures.value
    ∙ (c.requires.kept.each b _ stands).left k

pub returns-clause-block : goal.returns-clause-block
returns-clause-block c =
    block_is c.args.f.now (findings_of c.args.f.now (kept_entries c.args.table.now)) (is_marked c.args.reached.now) c.args.b.0 c.args.block.now _ _ _ _
    c.in_ok-copied_name.ensures c.in_ok-phis.ensures.phis (c.in_ok-lines.ensures.insts (is_marked c.args.reached.now)) (c.in_ok-term.ensures (is_marked c.args.reached.now))
