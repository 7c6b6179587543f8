use Rattle.vfa_fact.proofs.FactPartners.{from_arc_is}
use Rattle.vfa_fact.proofs.partners.arc_from.Goals as goal

pub returns : goal.returns
returns g c = from_arc_is c.args.fact.now c.args.order _ _ c.from_on.result c.base.ensures.value c.first_place_of-first.ensures.place c.from_on.ensures
