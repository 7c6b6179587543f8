use Rattle.std.proofs.Common.{◌∙◌, ap}
use Rattle.vfa_fact.specs.Compare.{restrict_of}
use Rattle.vfa_fact.specs.Fact.{in_numbers}
use Rattle.vfa_fact.specs.Views.{in_fact}
use Rattle.vfa_fact.proofs.cell_calls.restrict_at.Goals as goal

pub returns : goal.returns
returns g c =
    c.restricted.ensures
    ∙ ap (λ n. restrict_of g.row.W c.args.pred n (in_fact g.row.W c.from_numbers-2.result)) c.from_numbers.ensures
    ∙ ap (λ n. restrict_of g.row.W c.args.pred c.args.a.now (in_numbers g.row.W n)) c.from_numbers-2.ensures
