use Rattle.std.proofs.Common.{◌≡◌, ◌∙◌, true, ap, subst, sym, rules}
use Rattle.vfa_fact.specs.Cells.{CellValue}
use Rattle.vfa_fact.specs.Fact.{IsFact, in_numbers}
use Rattle.vfa_fact.proofs.CellNumbers.{cell_with}
use Rattle.vfa_fact.proofs.Restricted.{left_fact}
use Rattle.vfa_fact.proofs.cell_calls.compared.Goals as goal

pub restricted_numbers-requires-clause-left : goal.restricted_numbers-requires-clause-left
restricted_numbers-requires-clause-left c = c.a.invariant.fact c.in-Some.one (first_of (cc, search rules))

pub restricted_numbers-requires-clause-right : goal.restricted_numbers-requires-clause-right
restricted_numbers-requires-clause-right c =
    let one : c.a.inside.width ≡ c.args.a.now.width = ap (λ (v : CellValue). v.width) c.a.view_is in
    let two : c.b.inside.width ≡ c.args.b.now.width = ap (λ (v : CellValue). v.width) c.b.view_is in
    subst (λ w. IsFact w c.in-Some-numbers.two) (two ∙ sym c.requires ∙ sym one)
    (c.b.invariant.fact c.in-Some-numbers.two (first_of (cc, search rules)))

pub invariant_of-result : goal.invariant_of-result
invariant_of-result c =
    cell_with c.a.inside.width c.in-Some-restricted_numbers.numbers true c.a.invariant.width
    (left_fact c.a.inside.width c.args.pred c.in-Some.one c.in-Some-restricted_numbers.numbers (in_numbers c.a.inside.width c.in-Some-numbers.two)
    (c.a.invariant.fact c.in-Some.one (first_of (cc, search rules))) (sym c.restricted_numbers.ensures ∙ c.in-Some-restricted_numbers.is))
