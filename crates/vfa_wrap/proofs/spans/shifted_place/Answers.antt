use Rattle.std.proofs.Common.{◌∙◌, sym, refl, arith, true, false}
use Rattle.vfa_wrap.proofs.SpanLaws.{shift_place, amount_is}
use Rattle.vfa_wrap.proofs.spans.shifted_place.Goals as goal

pub result_place-requires : goal.result_place-requires
result_place-requires g c =
    let same = amount_is g.row.W c.args.negative c.cut.result c.requires.negative c.cut.ensures in
    (omega arith, λ _. omega (arith, same, c.requires.negative))

pub result_place-requires-2 : goal.result_place-requires-2
result_place-requires-2 g c =
    let same = amount_is g.row.W c.args.other c.cut-2.result c.requires.other c.cut-2.ensures in
    (omega arith, λ _. omega (arith, same, c.requires.other))

pub returns-then-is_negative : goal.returns-then-is_negative
returns-then-is_negative g c =
    shift_place c.args.reading g.row.W c.args.x c.cut.result c.args.negative c.args.negative c.args.other true _ c.result_place.ensures
    (amount_is g.row.W c.args.negative c.cut.result c.requires.negative c.cut.ensures) (sym c.if-is_negative.true ∙ c.is_negative.ensures) refl

pub returns : goal.returns
returns g c =
    shift_place c.args.reading g.row.W c.args.x c.cut-2.result c.args.other c.args.negative c.args.other false _ c.result_place-2.ensures
    (amount_is g.row.W c.args.other c.cut-2.result c.requires.other c.cut-2.ensures) (sym c.if-is_negative.false ∙ c.is_negative.ensures) refl
