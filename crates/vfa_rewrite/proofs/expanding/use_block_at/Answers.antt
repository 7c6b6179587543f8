use Rattle.std.proofs.Common.{◌≡◌, ◌<◌, ◌∙◌, Some, length, refl, sym, ap, arith}
use Rattle.std.specs.Prelude.{slice_get, slice_set}
use Rattle.std.proofs.lemmas.Option.{get_or_from_slice_get, slice_get_read}
use Rattle.vfa_mean.specs.Kept.{is_marked}
use Rattle.vfa_rewrite.specs.Expanding.{used_block_by}
use Rattle.vfa_rewrite.proofs.Noting.{results_below}
use Rattle.vfa_rewrite.proofs.expanding.use_block_at.Goals as goal

pub use_block-requires-clause-below : goal.use_block-requires-clause-below
use_block-requires-clause-below c =
    let f = c.args.f.now in
    let b = c.args.b in
    let blocks = c.as_slice-blocks.result.now in
    let block = c.index-blocks-b.result in
    let same : blocks ≡ f.blocks = c.as_slice-blocks.ensures in
    let room : b < length blocks = let count = ap length same in omega (arith, count, c.requires.inside) in
    let there : slice_get f.blocks b ≡ Some block = ap (λ l. slice_get l b) (sym same) ∙ slice_get_read blocks (length blocks) b block refl room c.index-blocks-b.is in
    results_below f b block c.requires.ready there

pub returns : goal.returns
returns c = λ block there.
    let f = c.args.f.now in
    let kept = c.args.kept.now in
    let b = c.args.b in
    let put = c.args.put.now.items in
    let used = is_marked c.args.used.now in
    let blocks = c.as_slice-blocks.result.now in
    let own = c.index-blocks-b.result in
    let same : blocks ≡ f.blocks = c.as_slice-blocks.ensures in
    let room : b < length blocks = let count = ap length same in omega (arith, count, c.requires.inside) in
    let own_is : Some own ≡ slice_get f.blocks b = sym (ap (λ l. slice_get l b) (sym same) ∙ slice_get_read blocks (length blocks) b own refl room c.index-blocks-b.is) in
    let found_is : Some c.index-kept-b.result ≡ slice_get kept b = sym (slice_get_read kept (length kept) b c.index-kept-b.result refl c.requires.found c.index-kept-b.is) in
    let old : c.index_mut-block.result.now ≡ block =
    c.index_mut-block.ensures.value ∙ get_or_from_slice_get put b block c.index_mut-block.result.now there in
    ap (slice_set put b) (c.in_ok-use_block.ensures ∙ (λ j. used_block_by f used (own_is j) (found_is j) (old j)))
