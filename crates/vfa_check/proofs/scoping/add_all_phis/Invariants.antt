use Rattle.vfa_check.proofs.ScopesFound.{HavePhis}
use Rattle.vfa_check.proofs.scoping.add_all_phis.Given as goal

abbrev pub invariant-rows : goal.invariant-rows
invariant-rows l = HavePhis l.f l.b l.initial.rows.items l.rows.items
