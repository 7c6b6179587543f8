use Rattle.std.proofs.Common.{◌≡◌, ◌<◌, ◌≤◌, ◌∙◌, false, [], get_or, length, ap, sym, arith}
use Rattle.std.specs.Prelude.{slice_index_or}
use Rattle.vfa_ir.specs.declared.functions.Block.{Block}
use Rattle.vfa_rewrite.specs.Expanding.{musts_of}
use Rattle.vfa_rewrite.proofs.Expanded.{musts_are, musts_more}
use Rattle.vfa_rewrite.proofs.Numbered.{numbered_all}
use Rattle.vfa_rewrite.proofs.staying.must_stay.Goals as goal

pub all-preserved : goal.all-preserved
all-preserved c =
    let f = c.args.f.now in
    let b = c.all.b in
    let blocks = c.as_slice-blocks.result.now in
    let block = c.index-blocks-b.result in
    let same : blocks ≡ f.blocks = c.as_slice-blocks.ensures in
    let inside : b < length f.blocks = let count = ap length same in omega (arith, count, c.all-test.true) in
    let read : block ≡ get_or f.blocks b block = c.index-blocks-b.is ∙ ap (λ l. get_or l b block) same in
    musts_more c.args.kept.now f.blocks b block inside block read _ (c.as_slice.ensures ∙ ap (λ (x : Block). x.insts) (sym c.index-blocks-b.is)) c.in_ok-musts_at.field-0 c.in_ok-musts_at.ensures _ _ _ c.in_ok-push.ensures.items c.all.invariant

pub returns : goal.returns
returns c found are b i inst line met =
    let f = c.args.f.now in
    let past : length f.blocks ≤ c.all.b = let count = ap length c.as_slice-blocks.ensures in omega (arith, count, c.all-test.false) in
    let all = numbered_all (musts_of c.args.kept.now) f.blocks c.all.b past c.all.must.items _ c.all.invariant in
    ap (λ l. slice_index_or (get_or l b []) i false) all ∙ musts_are f found c.args.kept.now are b i inst line met
