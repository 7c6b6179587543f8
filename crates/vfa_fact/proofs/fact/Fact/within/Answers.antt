use Rattle.std.proofs.Common.{◌∙◌, ap, Some}
use Rattle.std.proofs.lemmas.Bool.{OnTrue_at}
use Rattle.vfa_wrap.specs.Wrapped.{in_arc}
use Rattle.vfa_fact.specs.Views.{numbers_of}
use Rattle.vfa_fact.proofs.Facts.{numbers_parts}
use Rattle.vfa_fact.proofs.Restricted.{all_left, by_arc}
use Rattle.vfa_fact.proofs.fact.Fact.within.Goals as goal

pub returns-then-includes : goal.returns-then-includes
returns-then-includes g c = let a = c.args.self.now in
    ap Some c.numbers.ensures ∙ all_left g.row.W (numbers_of a) a.sharp (in_arc g.row.W c.args.arc.now) (λ x member.
    OnTrue_at c.if-includes.true c.includes.ensures.yes x ((numbers_parts g.row.W (numbers_of a) x member).1))

pub returns : goal.returns
returns g c = let a = c.args.self.now in
    c.numbers_in_both.ensures ∙ by_arc g.row.W (numbers_of a) a.sharp (in_arc g.row.W c.args.arc.now)
