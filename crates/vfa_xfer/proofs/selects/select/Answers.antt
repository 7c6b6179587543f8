use Rattle.std.proofs.Common.{sym, subst, rules}
use Rattle.vfa_fact.specs.Cells.{CellValue, IsCell}
use Rattle.vfa_xfer.specs.AnyFacts.{CellHolds}
use Rattle.vfa_xfer.specs.SelectLaws.{select_holds}
use Rattle.vfa_xfer.proofs.selects.select.Goals as goal

pub returns-then-is_none-clause-exact : goal.returns-then-is_none-clause-exact
returns-then-is_none-clause-exact c = search rules

pub returns-then-is_none-clause-holds : goal.returns-then-is_none-clause-holds
returns-then-is_none-clause-holds c z x y r bit one two given =
    subst (λ (v : CellValue). CellHolds v r) (sym (returns-then-is_none-clause-exact c))
    (select_holds c.args.c.now c.args.a.now c.args.b.now (subst IsCell c.a.view_is c.a.invariant) (subst IsCell c.b.view_is c.b.invariant) c.requires z x y r bit one two given)

pub returns-clause-exact : goal.returns-clause-exact
returns-clause-exact c = search rules

pub returns-clause-holds : goal.returns-clause-holds
returns-clause-holds c z x y r bit one two given =
    subst (λ (v : CellValue). CellHolds v r) (sym (returns-clause-exact c))
    (select_holds c.args.c.now c.args.a.now c.args.b.now (subst IsCell c.a.view_is c.a.invariant) (subst IsCell c.b.view_is c.b.invariant) c.requires z x y r bit one two given)
