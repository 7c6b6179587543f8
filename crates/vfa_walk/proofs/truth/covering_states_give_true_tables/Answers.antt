use Rattle.vfa_walk.proofs.TruthTables.{covered_is_true, narrowed_is_true}
use Rattle.vfa_walk.proofs.truth.covering_states_give_true_tables.Goals as goal

pub returns-clause-pass : goal.returns-clause-pass
returns-clause-pass g c f l x t checked printable is facts covers pass =
    let laws = g.met.V.Values.lawful in
    covered_is_true g.V.Values.holds g.V.Values.ty g.V.Values.proper g.V.Values.answers laws.typed laws.sound f checked.once printable checked.formed.typed checked.formed.defined checked.formed.phis l is x t facts covers pass

pub returns-clause-next : goal.returns-clause-next
returns-clause-next g c f l x t checked printable is facts covers pass =
    let laws = g.met.V.Values.lawful in
    narrowed_is_true g.V.Values.holds g.V.Values.ty g.V.Values.proper g.V.Values.answers laws.typed laws.sound f checked.once printable checked.formed.typed checked.formed.defined checked.formed.phis l is x t facts covers pass
