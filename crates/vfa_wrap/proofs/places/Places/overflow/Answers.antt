use Rattle.std.proofs.Common.{◌∙◌, sym}
use Rattle.vfa_wrap.proofs.SpanLaws.{overflow_no, overflow_yes, overflow_open}
use Rattle.vfa_wrap.proofs.places.Places.overflow.Goals as goal

pub returns-then-lies : goal.returns-then-lies
returns-then-lies g c span p = overflow_no c.args.reading g.row.W span (sym c.if-lies.true ∙ c.lies.ensures span p)

pub returns-then-misses : goal.returns-then-misses
returns-then-misses g c span p =
    overflow_yes c.args.reading g.row.W span (sym c.if-lies.false ∙ c.lies.ensures span p) (sym c.if-misses.true ∙ c.misses.ensures span p)

pub returns : goal.returns
returns g c span p =
    overflow_open c.args.reading g.row.W span (sym c.if-lies.false ∙ c.lies.ensures span p) (sym c.if-misses.false ∙ c.misses.ensures span p)
