use Rattle.vfa_walk.proofs.TruthTables.{one_table_of}
use Rattle.vfa_walk.proofs.truth.one_table_of_a_function.Goals as goal

pub returns : goal.returns
returns g c = one_table_of g.V.Values.answers
