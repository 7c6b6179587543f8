use Rattle.std.proofs.Common.{◌∙◌, ap}
use Rattle.vfa_xfer.specs.Ranks.{cell_rank}
use Rattle.vfa_xfer.proofs.Ranked.{some_rank, none_rank}
use Rattle.vfa_xfer.proofs.ranks.rank.Goals as goal

pub rank_of_fact-requires-clause-fact : goal.rank_of_fact-requires-clause-fact
rank_of_fact-requires-clause-fact c = c.cell.invariant.fact c.in-Some.numbers c.in-Some.is

pub returns-in-Some-clause-value : goal.returns-in-Some-clause-value
returns-in-Some-clause-value c =
    some_rank (record { width = c.cell.inside.width; numbers = c.cell.inside.numbers; never_poison = c.cell.inside.never_poison })
    c.in-Some.numbers c.rank_of_fact.result c.one_if.result c.in-Some.is c.rank_of_fact.ensures.value c.one_if.ensures.value
    ∙ ap cell_rank c.cell.view_is

pub returns-in-None-clause-value : goal.returns-in-None-clause-value
returns-in-None-clause-value c =
    none_rank (record { width = c.cell.inside.width; numbers = c.cell.inside.numbers; never_poison = c.cell.inside.never_poison }) c.in-None.is
    ∙ ap cell_rank c.cell.view_is
