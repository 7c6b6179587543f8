use Rattle.vfa_check.proofs.RowBits.{AreCut}
use Rattle.vfa_check.proofs.name_rows.cut.Given as goal

abbrev pub invariant-bits : goal.invariant-bits
invariant-bits l = AreCut l.initial.words l.others l.words l.k l.lost
