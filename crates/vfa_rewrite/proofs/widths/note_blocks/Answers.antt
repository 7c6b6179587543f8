use Rattle.std.proofs.Common.{◌≡◌, ◌<◌, ◌∙◌, Some, None, All, if◌then◌else◌, length, get_or, refl, sym, ap, subst, arith}
use Rattle.std.specs.Prelude.{slice_get, slice_index_or}
use Rattle.std.specs.Option.{ForSome, option_or}
use Rattle.std.proofs.lemmas.Option.{slice_get_read}
use Rattle.vfa_ir.specs.declared.operations.ValueId.{ValueId}
use Rattle.vfa_ir.specs.declared.functions.Block.{Block}
use Rattle.vfa_ir.specs.declared.functions.Inst.{Inst}
use Rattle.vfa_mean.specs.Kept.{is_marked}
use Rattle.vfa_rules.specs.Uses.{first_found}
use Rattle.vfa_rewrite.specs.declared.found.BlockFindings.{BlockFindings}
use Rattle.vfa_rewrite.specs.Chains.{itself}
use Rattle.vfa_rewrite.specs.Making.{width_in, width_within}
use Rattle.vfa_rewrite.specs.Rewritten.{with_numbers}
use Rattle.vfa_rewrite.proofs.Noting.{block_lines, noted_one, results_below}
use Rattle.vfa_rewrite.proofs.widths.note_blocks.Goals as goal

pub note_block-requires : goal.note_block-requires
note_block-requires c =
    let f = c.args.f.now in
    let b = c.all.b in
    let blocks = c.as_slice-blocks.result.now in
    let block = c.index-blocks-b.result in
    let same : blocks ≡ f.blocks = c.as_slice-blocks.ensures in
    let room : b < length blocks = let count = ap length same in omega (arith, count, c.requires.count, c.all-test.true) in
    let there : slice_get f.blocks b ≡ Some block = ap (λ l. slice_get l b) (sym same) ∙ slice_get_read blocks (length blocks) b block refl room c.index-blocks-b.is in
    subst (λ m. All (λ (inst : Inst). ForSome inst.result (λ (v : ValueId). v.0 < m)) c.as_slice.result.now) (sym (c.all.invariant.count ∙ c.requires.names))
    (subst (λ insts. All (λ (inst : Inst). ForSome inst.result (λ (v : ValueId). v.0 < length f.values)) insts) (sym (c.as_slice.ensures ∙ ap (λ (x : Block). x.insts) (sym c.index-blocks-b.is))) (results_below f b block c.requires.ready there))

pub all-preserved : goal.all-preserved
all-preserved c =
    let f = c.args.f.now in
    let kept = c.args.kept.now in
    let reached = is_marked c.args.reached.now in
    let b = c.all.b in
    let blocks = c.as_slice-blocks.result.now in
    let block = c.index-blocks-b.result in
    let same : blocks ≡ f.blocks = c.as_slice-blocks.ensures in
    let inside : b < length f.blocks = omega (arith, c.requires.count, c.all-test.true) in
    let room : b < length blocks = let count = ap length same in omega (arith, count, inside) in
    let there : slice_get f.blocks b ≡ Some block = ap (λ l. slice_get l b) (sym same) ∙ slice_get_read blocks (length blocks) b block refl room c.index-blocks-b.is in
    let read : block ≡ get_or f.blocks b block = c.index-blocks-b.is ∙ ap (λ l. get_or l b block) same in
    let here : c.as_slice.result.now ≡ block.insts = c.as_slice.ensures ∙ ap (λ (x : Block). x.insts) (sym c.index-blocks-b.is) in
    let stands = slice_get_read kept (length kept) b c.index-kept-b.result refl c.all-test.true c.index-kept-b.is in
    record {
      count = c.note_block.ensures.count ∙ c.all.invariant.count;
      noted = λ found are n.
          noted_one (width_within found reached n) f.blocks b block inside (slice_index_or c.all.widths.items n None) (slice_index_or c.note_block.new.widths.items n None) _
          (c.all.invariant.noted found are n)
          (c.note_block.ensures.widths found b
          (block_lines f kept found are b block there c.index-kept-b.result stands c.as_slice.result.now here
          c.as_slice-in-all.result.now (c.as_slice-in-all.ensures.value ∙ ap (λ (x : BlockFindings). x.lines.items) (sym c.index-kept-b.is))) n
          ∙ (λ j. option_or (slice_index_or c.all.widths.items n None)
          (if c.marked.ensures j then first_found itself (with_numbers (width_in found n b) 0 ((here ∙ ap (λ (x : Block). x.insts) read) j)) else None)));
    }
