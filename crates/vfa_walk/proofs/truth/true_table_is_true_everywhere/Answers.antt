use Rattle.vfa_walk.proofs.TruthTables.{places_are_true, edges_are_true, never_met}
use Rattle.vfa_walk.proofs.truth.true_table_is_true_everywhere.Goals as goal

pub returns-clause-places : goal.returns-clause-places
returns-clause-places g c f t checked printable facts is_true =
    let laws = g.met.V.Values.lawful in
    places_are_true g.V.Values.holds g.V.Values.ty g.V.Values.proper g.V.Values.answers laws.typed laws.sound f checked.once printable checked.formed.typed checked.formed.defined t facts is_true checked.formed.phis

pub returns-clause-edges : goal.returns-clause-edges
returns-clause-edges g c f t checked printable facts is_true =
    let laws = g.met.V.Values.lawful in
    edges_are_true g.V.Values.holds g.V.Values.ty g.V.Values.proper g.V.Values.answers laws.typed laws.sound f checked.once printable checked.formed.typed checked.formed.defined t facts is_true

pub returns-clause-unmet : goal.returns-clause-unmet
returns-clause-unmet g c f t place checked printable facts is_true none =
    let laws = g.met.V.Values.lawful in
    never_met g.V.Values.holds g.V.Values.ty g.V.Values.proper g.V.Values.answers laws.typed laws.sound f checked.once printable checked.formed.typed checked.formed.defined t facts is_true checked.formed.phis place none
