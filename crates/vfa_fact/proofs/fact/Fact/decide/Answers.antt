use Rattle.std.proofs.Common.{◌∙◌}
use Rattle.vfa_fact.specs.Compare.{satisfies, decide_of}
use Rattle.vfa_fact.specs.Order.{relates}
use Rattle.vfa_fact.specs.Views.{in_fact}
use Rattle.vfa_fact.proofs.Decisions.{decided_alike}
use Rattle.vfa_fact.proofs.FactMembers.{fact_width}
use Rattle.vfa_fact.proofs.fact.Fact.decide.Goals as goal

pub returns : goal.returns
unfolding decide_of
returns g c =
    c.decide_by.ensures ∙ decided_alike g.row.W (relates g.row.W c.relation_of.result) (satisfies g.row.W c.args.pred) (in_fact g.row.W c.args.a.now) (in_fact g.row.W c.args.b.now)
    (λ x y hx hy. c.relation_of.ensures g.row.W x y (fact_width c.args.a.now) hx hy)
