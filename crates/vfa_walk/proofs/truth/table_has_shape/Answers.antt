use Rattle.std.proofs.Common.{◌≡◌, subst}
use Rattle.vfa_walk.specs.Analysis.{Layout, flow_of}
use Rattle.vfa_walk.specs.Rounds.{IsTable}
use Rattle.vfa_walk.proofs.TruthShape.{table_shape, place_state}
use Rattle.vfa_walk.proofs.TruthTables.{one_layout}
use Rattle.vfa_walk.proofs.truth.table_has_shape.Goals as goal

pub returns-clause-shape : goal.returns-clause-shape
returns-clause-shape g c f l t checked printable is table =
    let laws = g.met.V.Values.lawful in
    let same : table.layout ≡ l = one_layout f table.layout l table.is_layout is in
    table_shape g.V.Values.ty g.V.Values.proper g.V.Values.answers laws.typed f printable checked.formed.typed checked.formed.phis checked.within.edges l is t
    (subst (λ (k : Layout). IsTable (flow_of g.V.Values.answers f k) t) same table.is_table)

pub returns-clause-places : goal.returns-clause-places
returns-clause-places g c f l t place checked printable is shape =
    let laws = g.met.V.Values.lawful in
    place_state g.V.Values.ty g.V.Values.proper g.V.Values.answers laws.typed f printable checked.formed.typed checked.formed.phis checked.within.edges l is t shape place
