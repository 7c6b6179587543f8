use Rattle.std.proofs.Common.{◌∙◌, sym, ap}
use Rattle.vfa_wrap.specs.declared.places.Places.{Places}
use Rattle.vfa_wrap.proofs.WholePlaceLaws.{low_misses, high_misses, meets_range}
use Rattle.vfa_wrap.proofs.places.Places.misses.Goals as goal

pub returns-in-Below : goal.returns-in-Below
returns-in-Below g c span p = low_misses c.args.reading g.row.W span (sym c.in-Below.is ∙ ap (λ (s : Places). s.most) p)

pub returns-in-Above : goal.returns-in-Above
returns-in-Above g c span p = high_misses c.args.reading g.row.W span (sym c.in-Above.is ∙ ap (λ (s : Places). s.least) p)

pub returns-in_default-least : goal.returns-in_default-least
returns-in_default-least g c span p =
    meets_range c.args.reading g.row.W span
    (λ e. c.in_default.not-Below (ap (λ (s : Places). s.most) p ∙ sym e))
    (λ e. c.in_default-least.not-Above (ap (λ (s : Places). s.least) p ∙ sym e))
