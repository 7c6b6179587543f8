use Rattle.std.proofs.Common.{◌∙◌, sym, subst, FitsSigned, rules}
use Rattle.std.specs.Int.{w128}
use Rattle.std.proofs.lemmas.Int.{to_z-of_z}
use Rattle.vfa_wrap.specs.Between.{AreEnds, Between}
use Rattle.vfa_wrap.proofs.SetEnds.{are_ends, between_ends}
use Rattle.vfa_wrap.specs.Ends.{EndsOf}
use Rattle.vfa_fact.specs.Fact.{in_numbers_fits}
use Rattle.vfa_fact.specs.Views.{numbers_of, in_fact}
use Rattle.vfa_fact.proofs.EndsOfFacts.{ends_are}
use Rattle.vfa_fact.proofs.fact.Fact.ends.Goals as goal

pub returns-clause-value : goal.returns-clause-value
returns-clause-value g c =
    let low_fits : FitsSigned w128 c.least_signed-slo.result = search rules in
    let high_fits : FitsSigned w128 c.greatest_signed-shi.result = search rules in
    ends_are g.row.W c.least-lo.result c.greatest-hi.result _ _ (in_fact g.row.W c.args.self.now) c.least-lo.ensures c.greatest-hi.ensures
    (to_z-of_z w128 c.least_signed-slo.result low_fits ∙ c.least_signed-slo.ensures)
    (to_z-of_z w128 c.greatest_signed-shi.result high_fits ∙ c.greatest_signed-shi.ensures)

pub returns-clause-reached : goal.returns-clause-reached
returns-clause-reached g c = let fact = c.args.self.now in
    subst (AreEnds g.row.W) (sym (returns-clause-value g c))
    (are_ends g.row.W (in_fact g.row.W fact) fact.arc.first fact.known.width.least fact.arc.arc.first_fits fact.sharp.first_in)

pub returns-clause-between : goal.returns-clause-between
returns-clause-between g c x member = let fact = c.args.self.now in
    subst (λ (e : EndsOf). Between g.row.W e x) (sym (returns-clause-value g c))
    (between_ends g.row.W (in_fact g.row.W fact) x fact.known.width.least (in_numbers_fits g.row.W (numbers_of fact) x member) member)
