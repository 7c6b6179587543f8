use Rattle.std.proofs.Common.{◌∙◌, ap, sym}
use Rattle.vfa_dom.specs.Sets.{single_of}
use Rattle.vfa_fact.specs.Cells.{CellValue, in_cell}
use Rattle.vfa_fact.proofs.CellNumbers.{no_single, single_at, single_not, single_tells}
use Rattle.vfa_fact.proofs.cell.Cell.single.Goals as goal

pub returns-in_err-numbers-clause-exact : goal.returns-in_err-numbers-clause-exact
returns-in_err-numbers-clause-exact c =
    c.from_residual.ensures
    ∙ sym (no_single (record { width = c.self.inside.width; numbers = c.self.inside.numbers; never_poison = c.self.inside.never_poison }) c.in_err-numbers.was)
    ∙ ap (λ (v : CellValue). single_of v.width (in_cell v)) c.self.view_is

pub returns-then-numbers-clause-exact : goal.returns-then-numbers-clause-exact
returns-then-numbers-clause-exact c =
    sym (single_not (record { width = c.self.inside.width; numbers = c.self.inside.numbers; never_poison = c.self.inside.never_poison }) c.in_ok-numbers.numbers
    (c.self.invariant.fact c.in_ok-numbers.numbers c.in_ok-numbers.was) c.in_ok-numbers.was c.if-numbers.true)
    ∙ ap (λ (v : CellValue). single_of v.width (in_cell v)) c.self.view_is

pub returns-clause-exact : goal.returns-clause-exact
returns-clause-exact c =
    sym (single_at (record { width = c.self.inside.width; numbers = c.self.inside.numbers; never_poison = c.self.inside.never_poison }) c.in_ok-numbers.numbers
    (c.self.invariant.fact c.in_ok-numbers.numbers c.in_ok-numbers.was) c.in_ok-numbers.was c.if-numbers.false)
    ∙ ap (λ (v : CellValue). single_of v.width (in_cell v)) c.self.view_is

pub returns-in_err-numbers-clause-only : goal.returns-in_err-numbers-clause-only
returns-in_err-numbers-clause-only c x = single_tells c.args.self.now c.from_residual.result (returns-in_err-numbers-clause-exact c) x

pub returns-then-numbers-clause-only : goal.returns-then-numbers-clause-only
returns-then-numbers-clause-only c x = single_tells c.args.self.now _ (returns-then-numbers-clause-exact c) x

pub returns-clause-only : goal.returns-clause-only
returns-clause-only c x = single_tells c.args.self.now _ (returns-clause-exact c) x
