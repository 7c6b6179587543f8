use Rattle.vfa_check.proofs.ScopesFound.{AreFull}
use Rattle.vfa_check.proofs.scoping.full_rows.Given as goal

abbrev pub invariant-rows : goal.invariant-rows
invariant-rows l = AreFull l.names l.counter l.rows.items
