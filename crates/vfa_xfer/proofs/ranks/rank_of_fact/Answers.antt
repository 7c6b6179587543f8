use Rattle.std.proofs.Common.{arith}
use Rattle.vfa_xfer.proofs.Ranked.{count_most, fact_rank_is}
use Rattle.vfa_xfer.proofs.ranks.rank_of_fact.Goals as goal

pub overflow_mul-result : goal.overflow_mul-result
overflow_mul-result c =
    let most = count_most c.args.width c.args.numbers.now c.requires.fact in let width = c.requires.width.most in omega arith

pub overflow_add-result : goal.overflow_add-result
overflow_add-result c =
    let most = count_most c.args.width c.args.numbers.now c.requires.fact in let width = c.requires.width.most in omega arith

pub returns-clause-value : goal.returns-clause-value
returns-clause-value c = fact_rank_is c.args.width c.args.numbers.now c.one_if.result c.fills_low_span.result c.one_if.ensures.value c.fills_low_span.ensures

pub returns-clause-bound : goal.returns-clause-bound
returns-clause-bound c =
    let most = count_most c.args.width c.args.numbers.now c.requires.fact in let width = c.requires.width.most in omega arith
