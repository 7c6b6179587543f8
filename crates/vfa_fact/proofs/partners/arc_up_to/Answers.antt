use Rattle.vfa_fact.proofs.FactPartners.{up_to_arc_is}
use Rattle.vfa_fact.proofs.partners.arc_up_to.Goals as goal

pub returns : goal.returns
returns g c = up_to_arc_is c.args.fact.now c.args.order _ _ c.up_to.result c.base.ensures.value c.last_place_of-last.ensures.place c.up_to.ensures
