use Rattle.std.proofs.lemmas.Bool.{and_from}
use Rattle.vfa_fact.specs.Views.{in_test}
use Rattle.vfa_fact.proofs.test.Test.any.Goals as goal

pub returns : goal.returns
unfolding in_test
returns g c x fits = and_from _ _ (c.any.ensures.all x fits) (and_from _ _ (c.any-2.ensures.all x fits) (c.any-3.ensures.all x fits))
