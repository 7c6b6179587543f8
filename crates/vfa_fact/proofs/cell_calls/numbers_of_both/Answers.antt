use Rattle.std.proofs.Common.{◌≡◌, ◌∙◌, ap, subst, sym, rules, arith}
use Rattle.vfa_fact.specs.Cells.{CellValue, joined_numbers}
use Rattle.vfa_fact.specs.Fact.{IsFact}
use Rattle.vfa_fact.proofs.JoinedCells.{both_again}
use Rattle.vfa_fact.proofs.cell_calls.numbers_of_both.Goals as goal

pub returns-then-eq : goal.returns-then-eq
returns-then-eq c =
    let equal : c.in-Some.one ≡ c.in-Some-numbers.two = first_of (search rules, grind arith, cc) in
    let same : c.a.inside.numbers ≡ c.b.inside.numbers = cc in
    let one : c.a.inside.numbers ≡ c.args.a.now.numbers = ap (λ (v : CellValue). v.numbers) c.a.view_is in
    let two : c.b.inside.numbers ≡ c.args.b.now.numbers = ap (λ (v : CellValue). v.numbers) c.b.view_is in
    let width : c.a.inside.width ≡ c.args.a.now.width = ap (λ (v : CellValue). v.width) c.a.view_is in
    both_again c.a.inside.width c.a.inside.numbers c.b.inside.numbers c.a.invariant.fact same
    ∙ ap (λ w. joined_numbers w c.a.inside.numbers c.b.inside.numbers) width
    ∙ ap (λ m. joined_numbers c.args.a.now.width m c.b.inside.numbers) one
    ∙ ap (λ n. joined_numbers c.args.a.now.width c.args.a.now.numbers n) two

pub joined-requires-clause-left : goal.joined-requires-clause-left
joined-requires-clause-left c = c.a.invariant.fact c.in-Some.one (first_of (cc, search rules))

pub joined-requires-clause-right : goal.joined-requires-clause-right
joined-requires-clause-right c =
    let one : c.a.inside.width ≡ c.args.a.now.width = ap (λ (v : CellValue). v.width) c.a.view_is in
    let two : c.b.inside.width ≡ c.args.b.now.width = ap (λ (v : CellValue). v.width) c.b.view_is in
    subst (λ w. IsFact w c.in-Some-numbers.two) (two ∙ sym c.requires ∙ sym one)
    (c.b.invariant.fact c.in-Some-numbers.two (first_of (cc, search rules)))
