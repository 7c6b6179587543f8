use Rattle.std.proofs.Common.{◌∙◌}
use Rattle.vfa_fact.specs.Views.{numbers_of}
use Rattle.vfa_fact.proofs.FactSets.{single_same, single_tells}
use Rattle.vfa_fact.proofs.domain.FactDomain.single.Goals as goal

pub returns-clause-exact : goal.returns-clause-exact
returns-clause-exact g c = let fact = c.args.self.now in
    c.single.ensures.value ∙ single_same g.row.W (numbers_of fact) fact.sharp

pub returns-clause-only : goal.returns-clause-only
returns-clause-only g c = let fact = c.args.self.now in
    single_tells g.row.W (numbers_of fact) c.single.result (returns-clause-exact g c)
