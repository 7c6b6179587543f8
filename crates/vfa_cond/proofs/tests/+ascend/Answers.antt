use Rattle.vfa_cond.proofs.Ascending.{ascends_nothing, ascends_nameless, ascends_name}
use Rattle.vfa_cond.proofs.tests.+ascend.Goals as goal

pub returns-in_default : goal.returns-in_default
returns-in_default t c = λ _. ascends_nothing c.args.low c.args.insts.now c.in_default.ensures.cases

pub returns-in_default-result : goal.returns-in_default-result
returns-in_default-result t c =
    λ yes. ascends_nameless c.args.low c.args.insts.now c.in-Some.first.now c.in-Some.rest.now c.in-Some.ensures.cases.0 c.in_default-result.is (c.ascend.ensures yes)

pub returns : goal.returns
returns t c =
    λ yes. ascends_name c.args.low c.args.insts.now c.in-Some.first.now c.in-Some.rest.now c.in-Some-result.v c.in-Some.ensures.cases.0 c.in-Some-result.is c.if-v-low.false (c.ascend-2.ensures yes)
