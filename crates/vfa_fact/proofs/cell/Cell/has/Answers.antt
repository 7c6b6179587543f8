use Rattle.std.proofs.Common.{◌≡◌, ◌∙◌, ◌<◌, ◌^◌, true, false, ap, sym, arith}
use Rattle.std.proofs.lemmas.Nat.{pow_pos}
use Rattle.vfa_wrap.proofs.Truth.{untrue}
use Rattle.vfa_fact.specs.Cells.{CellValue, in_cell}
use Rattle.vfa_fact.proofs.CellNumbers.{none_in, some_in, not_by_masks, by_span, cell_fits}
use Rattle.vfa_fact.proofs.Facts.{fact_cube}
use Rattle.vfa_fact.proofs.cell.Cell.has.Goals as goal

pub returns-in_default : goal.returns-in_default
returns-in_default c =
    sym (none_in (record { width = c.self.inside.width; numbers = c.self.inside.numbers; never_poison = c.self.inside.never_poison }) c.args.bits c.in_default.is)
    ∙ ap (λ (v : CellValue). in_cell v c.args.bits) c.self.view_is

pub returns-then-most_of-bits : goal.returns-then-most_of-bits
returns-then-most_of-bits c =
    let more = c.if-most_of-bits.true in let top = c.most_of.ensures in
    sym (untrue _ (λ member. let small = cell_fits (record { width = c.self.inside.width; numbers = c.self.inside.numbers; never_poison = c.self.inside.never_poison }) c.args.bits member in
    omega arith))
    ∙ ap (λ (v : CellValue). in_cell v c.args.bits) c.self.view_is

pub returns-then-not-agree_with : goal.returns-then-not-agree_with
returns-then-not-agree_with c =
    let w = c.self.inside.width in let some = pow_pos c.self.inside.width in
    let n = c.in-Some.numbers in let fact = c.self.invariant.fact c.in-Some.numbers c.in-Some.is in
    let small : c.args.bits < 2 ^ c.self.inside.width = let top = c.most_of.ensures in let less = c.if-most_of-bits.false in omega arith in
    let out : c.agree_with.result ≡ false = grind (arith, c.if-not-agree_with.true) in
    sym (some_in (record { width = c.self.inside.width; numbers = c.self.inside.numbers; never_poison = c.self.inside.never_poison }) c.in-Some.numbers c.args.bits c.in-Some.is
    ∙ not_by_masks c.self.inside.width c.in-Some.numbers c.args.bits (sym (c.agree_with.ensures c.self.inside.width (fact_cube c.self.inside.width c.in-Some.numbers fact) small) ∙ out))
    ∙ ap (λ (v : CellValue). in_cell v c.args.bits) c.self.view_is

pub returns : goal.returns
returns c =
    let some = pow_pos c.self.inside.width in let fact = c.self.invariant.fact c.in-Some.numbers c.in-Some.is in
    let small : c.args.bits < 2 ^ c.self.inside.width = let top = c.most_of.ensures in let less = c.if-most_of-bits.false in omega arith in
    let in_cube : c.agree_with.result ≡ true = grind (arith, c.if-not-agree_with.false) in
    c.span.ensures c.self.inside.width fact.arc.first_fits fact.arc.last_fits small
    ∙ sym (some_in (record { width = c.self.inside.width; numbers = c.self.inside.numbers; never_poison = c.self.inside.never_poison }) c.in-Some.numbers c.args.bits c.in-Some.is
    ∙ by_span c.self.inside.width c.in-Some.numbers c.args.bits (sym (c.agree_with.ensures c.self.inside.width (fact_cube c.self.inside.width c.in-Some.numbers fact) small) ∙ in_cube))
    ∙ ap (λ (v : CellValue). in_cell v c.args.bits) c.self.view_is
