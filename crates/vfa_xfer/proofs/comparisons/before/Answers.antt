use Rattle.vfa_fact.specs.Views.{in_fact}
use Rattle.vfa_fact.proofs.FactMembers.{fact_width}
use Rattle.vfa_xfer.proofs.OneSign.{before_is}
use Rattle.vfa_xfer.proofs.comparisons.before.Goals as goal

pub returns : goal.returns
returns g c =
    let yes = c.is_less.ensures in
    let no = c.is_at_most.ensures in
    rw (yes, no)
    (before_is g.row.W (in_fact g.row.W c.args.a.now) (in_fact g.row.W c.args.b.now) c.halves_of-one.result c.halves_of-two.result (fact_width c.args.a.now)
    (record { low = c.halves_of-one.ensures.low; high = c.halves_of-one.ensures.high })
    (record { low = c.halves_of-two.ensures.low; high = c.halves_of-two.ensures.high }))
