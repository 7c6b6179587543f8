use Rattle.std.proofs.Common.{◌∙◌, sym}
use Rattle.vfa_wrap.proofs.SpanLaws.{bound_empty, bound_some}
use Rattle.vfa_wrap.proofs.spans.cut.Goals as goal

pub returns-then-misses : goal.returns-then-misses
returns-then-misses g c whole p = bound_empty c.args.reading g.row.W whole (sym c.if-misses.true ∙ c.misses.ensures whole p)

pub returns : goal.returns
returns g c whole p =
    bound_some c.args.reading g.row.W whole _ (sym c.if-misses.false ∙ c.misses.ensures whole p) (c.clamped.ensures whole p)
