use Rattle.vfa_xfer.proofs.CastRows.{extent_plain, extent_split}
use Rattle.vfa_xfer.proofs.casts.extent.Goals as goal

pub returns-then-numbers-clause-value : goal.returns-then-numbers-clause-value
returns-then-numbers-clause-value c =
    let n = c.args.numbers.now in
    let arc = c.requires.fact.arc in
    extent_plain c.args.from n.first n.last arc.first_fits arc.last_fits c.if-numbers.true

pub returns-clause-value : goal.returns-clause-value
returns-clause-value c =
    let n = c.args.numbers.now in
    let arc = c.requires.fact.arc in
    extent_split c.args.from n.first n.last c.most_of.result arc.first_fits arc.last_fits c.if-numbers.false c.most_of.ensures
