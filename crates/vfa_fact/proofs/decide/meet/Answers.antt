use Rattle.std.proofs.Common.{◌∙◌}
use Rattle.vfa_fact.proofs.Restricted.{common_some}
use Rattle.vfa_fact.specs.Views.{numbers_of, in_fact}
use Rattle.vfa_fact.proofs.decide.meet.Goals as goal

pub returns : goal.returns
returns g c =
    c.is_some.ensures ∙ common_some g.row.W (numbers_of c.args.a.now) (in_fact g.row.W c.args.b.now) c.common.result c.common.ensures
