use Rattle.std.proofs.Common.{◌∙◌}
use Rattle.vfa_fact.specs.Views.{in_fact}
use Rattle.vfa_fact.proofs.FactMembers.{fact_width, fact_members}
use Rattle.vfa_xfer.proofs.OneSign.{same_is, decided_same}
use Rattle.vfa_xfer.proofs.comparisons.same.Goals as goal

pub returns : goal.returns
returns g c =
    let A = in_fact g.row.W c.args.a.now in
    let B = in_fact g.row.W c.args.b.now in
    let yes = c.unwrap_or.ensures in
    let no = c.differs.ensures in
    rw (yes, no)
    (same_is g.row.W A B c.halves_of-one.result c.halves_of-two.result c.decide.result (fact_width c.args.a.now)
    (record { low = c.halves_of-one.ensures.low; high = c.halves_of-one.ensures.high })
    (record { low = c.halves_of-two.ensures.low; high = c.halves_of-two.ensures.high })
    (fact_members c.args.a.now c.args.b.now) (c.decide.ensures ∙ decided_same g.row.W A B))
