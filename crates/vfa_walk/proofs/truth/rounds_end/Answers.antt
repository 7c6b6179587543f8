use Rattle.vfa_walk.proofs.EndingRounds.{rounds_end as ends}
use Rattle.vfa_walk.proofs.truth.rounds_end.Goals as goal

pub returns : goal.returns
returns g c f l checked printable is =
    let laws = g.met.V.Values.lawful in
    ends g.V.Values.ty g.V.Values.proper g.V.Values.answers laws.typed laws.steady f printable checked.formed.typed checked.formed.phis checked.within.edges checked.within.names l is
