use Rattle.std.proofs.Common.{sym, subst, rules}
use Rattle.vfa_fact.specs.Cells.{CellValue}
use Rattle.vfa_xfer.specs.AnyFacts.{CellHolds}
use Rattle.vfa_xfer.specs.SelectLaws.{freeze_holds}
use Rattle.vfa_xfer.proofs.selects.freeze.Goals as goal

pub returns-clause-exact : goal.returns-clause-exact
returns-clause-exact c = search rules

pub returns-clause-holds : goal.returns-clause-holds
returns-clause-holds c x r one given =
    subst (λ (v : CellValue). CellHolds v r) (sym (returns-clause-exact c)) (freeze_holds c.args.a.now x r one given)
