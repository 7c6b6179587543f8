use Rattle.std.proofs.Common.{◌∙◌, false, sym, ap}
use Rattle.vfa_rewrite.specs.Rewritten.{many_ways}
use Rattle.vfa_rewrite.proofs.TermsPut.{ways_by_last}
use Rattle.vfa_rewrite.proofs.putting_terms.without_other.Goals as goal

pub returns : goal.returns
returns c =
    c.with_other.ensures
    ∙ (ways_by_last c.args.width c.args.on c.args.other c.in-Some.last c.pop.new.self.items
    ∙ ap (many_ways false c.args.width c.args.on c.args.other) (sym c.in-Some.ensures.items))
