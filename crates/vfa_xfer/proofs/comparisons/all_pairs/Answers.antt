use Rattle.std.proofs.Common.{◌≡◌, ◌∙◌, ap, sym, subst, false, refl}
use Rattle.std.specs.Option.{is_some}
use Rattle.vfa_fact.specs.Cells.{CellValue, IsCell}
use Rattle.vfa_xfer.proofs.CellSets.{none_there, some_there, first_empty, second_empty, cells_answer, cells_both}
use Rattle.vfa_xfer.proofs.comparisons.all_pairs.Goals as goal

pub returns-then-is_none : goal.returns-then-is_none
returns-then-is_none c =
    let numbers : c.a.inside.numbers ≡ c.args.a.now.numbers = ap (λ (v : CellValue). v.numbers) c.a.view_is in
    first_empty false c.args.pred c.args.a.now.width c.args.a.now c.args.b.now
    (sym numbers ∙ none_there c.a.inside.numbers c.is_none.result c.is_none.ensures c.if-is_none.true)

pub returns-then-is_none-2 : goal.returns-then-is_none-2
returns-then-is_none-2 c =
    let numbers : c.b.inside.numbers ≡ c.args.b.now.numbers = ap (λ (v : CellValue). v.numbers) c.b.view_is in
    second_empty false c.args.pred c.args.a.now.width c.args.a.now c.args.b.now
    (sym numbers ∙ none_there c.b.inside.numbers c.is_none-2.result c.is_none-2.ensures c.if-is_none-2.true)

pub returns-in-Some : goal.returns-in-Some
returns-in-Some c =
    let one : c.a.inside.numbers ≡ c.args.a.now.numbers = ap (λ (v : CellValue). v.numbers) c.a.view_is in
    let two : c.b.inside.numbers ≡ c.args.b.now.numbers = ap (λ (v : CellValue). v.numbers) c.b.view_is in
    cells_answer c.args.pred c.args.a.now c.args.b.now c.decide.result (subst IsCell c.a.view_is c.a.invariant) (subst IsCell c.b.view_is c.b.invariant) c.requires
    (ap is_some (sym one) ∙ some_there c.a.inside.numbers c.is_none.result c.is_none.ensures c.if-is_none.false)
    (ap is_some (sym two) ∙ some_there c.b.inside.numbers c.is_none-2.result c.is_none-2.ensures c.if-is_none-2.false)
    c.decide.ensures _ _ c.in-Some.is refl

pub returns-in-None : goal.returns-in-None
returns-in-None c =
    let one : c.a.inside.numbers ≡ c.args.a.now.numbers = ap (λ (v : CellValue). v.numbers) c.a.view_is in
    let two : c.b.inside.numbers ≡ c.args.b.now.numbers = ap (λ (v : CellValue). v.numbers) c.b.view_is in
    cells_both c.args.pred c.args.a.now c.args.b.now c.decide.result (subst IsCell c.a.view_is c.a.invariant) (subst IsCell c.b.view_is c.b.invariant) c.requires
    (ap is_some (sym one) ∙ some_there c.a.inside.numbers c.is_none.result c.is_none.ensures c.if-is_none.false)
    (ap is_some (sym two) ∙ some_there c.b.inside.numbers c.is_none-2.result c.is_none-2.ensures c.if-is_none-2.false)
    c.decide.ensures c.in-None.is
