use Rattle.std.proofs.Common.{◌∙◌, sym, ap}
use Rattle.vfa_wrap.specs.declared.places.Places.{Places}
use Rattle.vfa_wrap.proofs.SpanLaws.{lies_is, lies_rest}
use Rattle.vfa_wrap.proofs.places.Places.lies.Goals as goal

pub returns-then-not-is_within : goal.returns-then-not-is_within
returns-then-not-is_within g c span p =
    lies_is c.args.reading g.row.W span (sym c.if-not-is_within.true ∙ c.is_within.ensures span.least (ap (λ (s : Places). s.least) p))

pub returns : goal.returns
returns g c span p =
    lies_rest c.args.reading g.row.W span c.is_within-2.result
    (sym c.if-not-is_within.false ∙ c.is_within.ensures span.least (ap (λ (s : Places). s.least) p))
    (c.is_within-2.ensures span.most (ap (λ (s : Places). s.most) p))
