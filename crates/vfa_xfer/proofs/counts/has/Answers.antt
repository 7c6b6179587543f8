use Rattle.std.proofs.Common.{◌∙◌, ap, mod-eq_of_lt}
use Rattle.vfa_fact.specs.Views.{in_fact}
use Rattle.vfa_xfer.proofs.counts.has.Goals as goal

pub returns : goal.returns
returns g c = c.has.ensures.exact ∙ ap (in_fact g.row.W c.args.a.now) (c.cut.ensures ∙ mod-eq_of_lt c.requires)
