use Rattle.std.proofs.Common.{◌+◌, ℕ, ap, ◌∙◌}
use Rattle.vfa_fact.proofs.FactPartners.{none_after_last, after_arc}
use Rattle.vfa_fact.proofs.partners.arc_after.Goals as goal

pub returns-then-first-most : goal.returns-then-first-most
returns-then-first-most g c =
    none_after_last c.args.fact.now c.args.order _ c.first_place_of-first.ensures.place (ap (λ (n : ℕ). n + 1) c.if-first-most.true ∙ c.most.ensures)

pub returns : goal.returns
returns g c = after_arc c.args.fact.now c.args.order _ _ c.from_on.result c.base.ensures.value c.first_place_of-first.ensures.place c.from_on.ensures
