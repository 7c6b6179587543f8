use Rattle.vfa_walk.proofs.TruthTables.{table_is_true as is_true, table_is_typed}
use Rattle.vfa_walk.proofs.truth.table_is_true.Goals as goal

pub returns-clause-is_true : goal.returns-clause-is_true
returns-clause-is_true g c f t checked printable is =
    let laws = g.met.V.Values.lawful in
    is_true g.V.Values.holds g.V.Values.ty g.V.Values.proper g.V.Values.answers laws.typed laws.sound f checked.once printable checked.formed.typed checked.formed.defined checked.formed.phis t is

pub returns-clause-typed : goal.returns-clause-typed
returns-clause-typed g c f t checked printable is =
    let laws = g.met.V.Values.lawful in
    table_is_typed g.V.Values.holds g.V.Values.ty g.V.Values.proper g.V.Values.answers laws.typed laws.sound f checked.once printable checked.formed.typed checked.formed.defined t is
