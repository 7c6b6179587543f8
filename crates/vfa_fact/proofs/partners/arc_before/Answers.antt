use Rattle.vfa_fact.proofs.FactPartners.{none_before_first, before_arc}
use Rattle.vfa_fact.proofs.partners.arc_before.Goals as goal

pub returns-then-last-eq0 : goal.returns-then-last-eq0
returns-then-last-eq0 g c = none_before_first c.args.fact.now c.args.order _ c.last_place_of-last.ensures.place c.if-last-eq0.true

pub returns : goal.returns
returns g c = before_arc c.args.fact.now c.args.order _ _ c.up_to.result c.base.ensures.value c.last_place_of-last.ensures.place c.if-last-eq0.false c.up_to.ensures
