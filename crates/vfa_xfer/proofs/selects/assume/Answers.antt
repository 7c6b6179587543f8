use Rattle.std.proofs.Common.{sym, subst, rules}
use Rattle.vfa_fact.specs.Cells.{CellValue}
use Rattle.vfa_xfer.specs.AnyFacts.{CellHolds}
use Rattle.vfa_xfer.specs.SelectLaws.{assume_holds}
use Rattle.vfa_xfer.proofs.selects.assume.Goals as goal

pub returns-then-not-has-clause-exact : goal.returns-then-not-has-clause-exact
returns-then-not-has-clause-exact c = search rules

pub returns-then-not-has-clause-holds : goal.returns-then-not-has-clause-holds
returns-then-not-has-clause-holds c z r bit given =
    subst (λ (v : CellValue). CellHolds v r) (sym (returns-then-not-has-clause-exact c)) (assume_holds c.args.c.now z r c.requires bit given)

pub returns-clause-exact : goal.returns-clause-exact
returns-clause-exact c = search rules

pub returns-clause-holds : goal.returns-clause-holds
returns-clause-holds c z r bit given =
    subst (λ (v : CellValue). CellHolds v r) (sym (returns-clause-exact c)) (assume_holds c.args.c.now z r c.requires bit given)
