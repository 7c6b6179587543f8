use Rattle.vfa_mean.proofs.PlaceTables.{TableFrom}
use Rattle.vfa_mean.proofs.places.table_of.Given as goal

abbrev pub invariant-each : goal.invariant-each
invariant-each l = TableFrom l.numbers l.table.items l.count l.place
