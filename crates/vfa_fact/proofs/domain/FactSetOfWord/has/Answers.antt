use Rattle.std.proofs.Common.{false, arith}
use Rattle.vfa_known.proofs.Members.{same_test}
use Rattle.vfa_fact.specs.Fact.{in_numbers}
use Rattle.vfa_fact.specs.Views.{in_fact}
use Rattle.vfa_fact.proofs.domain.FactSetOfWord.has.Goals as goal

pub returns-then-not-has-clause-exact : goal.returns-then-not-has-clause-exact
unfolding in_numbers
returns-then-not-has-clause-exact g c = grind (arith, c.has.ensures.exact, c.if-not-has.true)

pub returns-clause-exact : goal.returns-clause-exact
unfolding in_numbers
returns-clause-exact g c = grind (arith, c.has.ensures.exact, c.has-2.ensures.value, c.if-not-has.false)

pub returns-then-not-has-clause-member : goal.returns-then-not-has-clause-member
returns-then-not-has-clause-member g c =
    same_test false (in_fact g.row.W c.args.self.now c.args.x) (returns-then-not-has-clause-exact g c)

pub returns-clause-member : goal.returns-clause-member
returns-clause-member g c =
    same_test c.has-2.result (in_fact g.row.W c.args.self.now c.args.x) (returns-clause-exact g c)
