use Rattle.std.proofs.Common.{◌<◌, ◌∙◌, Some, length, sym, ap}
use Rattle.std.proofs.lemmas.Option.{MatchOption-at_none, MatchOption-at_some}
use Rattle.vfa_ir.specs.Typed.{TypedBlock}
use Rattle.vfa_check.specs.Items.{IsIllTypedOn}
use Rattle.vfa_check.proofs.ItemLines.{ill_typed_at, row_long, row_within}
use Rattle.vfa_check.proofs.EachStep.{all_end, all_step, found_at}
use Rattle.vfa_check.proofs.types.ill_typed_line.Goals as goal

pub ill_typed_item-requires : goal.ill_typed_item-requires
ill_typed_item-requires c =
    let within : c.loop-place.place < length c.as_slice-of.result.now =
    row_within c.args.f.now c.args.lines.now c.as_slice-of.result.now c.as_slice-block-items.result.now c.loop-place.place c.requires c.as_slice-of.ensures c.as_slice-block-items.ensures c.loop-place-test.true in
    row_long c.args.f.now c.args.lines.now c.loop-place.place c.as_slice.result.now c.block-item.result c.requires
    (found_at c.as_slice-of.result.now c.args.lines.now.of c.loop-place.place c.index-of-place.result c.as_slice-of.ensures within c.index-of-place.is ∙ ap Some (sym c.as_slice.ensures))
    (found_at c.as_slice-block-items.result.now c.args.f.now.blocks c.loop-place.place c.block-item.result c.as_slice-block-items.ensures c.loop-place-test.true c.block-item.is)

pub returns-in-Some : goal.returns-in-Some
returns-in-Some c =
    let within : c.loop-place.place < length c.as_slice-of.result.now =
    row_within c.args.f.now c.args.lines.now c.as_slice-of.result.now c.as_slice-block-items.result.now c.loop-place.place c.requires c.as_slice-of.ensures c.as_slice-block-items.ensures c.loop-place-test.true in
    ill_typed_at c.args.f.now c.args.lines.now c.loop-place.place c.in-Some.line c.as_slice.result.now c.block-item.result
    (found_at c.as_slice-of.result.now c.args.lines.now.of c.loop-place.place c.index-of-place.result c.as_slice-of.ensures within c.index-of-place.is ∙ ap Some (sym c.as_slice.ensures))
    (found_at c.as_slice-block-items.result.now c.args.f.now.blocks c.loop-place.place c.block-item.result c.as_slice-block-items.ensures c.loop-place-test.true c.block-item.is)
    c.loop-place.invariant
    (MatchOption-at_some (TypedBlock c.args.f.now c.block-item.result) (λ line. IsIllTypedOn c.args.f.now c.as_slice.result.now line c.block-item.result) c.in-Some.line c.in-Some.is c.in_ok-line.ensures)

pub loop-place-preserved : goal.loop-place-preserved
loop-place-preserved c =
    all_step (TypedBlock c.args.f.now) c.as_slice-block-items.result.now c.args.f.now.blocks c.loop-place.place c.block-item.result c.as_slice-block-items.ensures c.loop-place-test.true c.block-item.is c.loop-place.invariant
    (MatchOption-at_none (TypedBlock c.args.f.now c.block-item.result) (λ line. IsIllTypedOn c.args.f.now c.as_slice.result.now line c.block-item.result) c.in_default.is c.in_ok-line.ensures)

pub returns : goal.returns
returns c =
    all_end (TypedBlock c.args.f.now) c.as_slice-block-items.result.now c.args.f.now.blocks c.loop-place.place c.as_slice-block-items.ensures c.loop-place-test.false c.loop-place.invariant
