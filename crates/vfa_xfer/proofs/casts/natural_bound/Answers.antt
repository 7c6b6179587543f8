use Rattle.vfa_fact.specs.CellCuts.{shown_cell_ends}
use Rattle.vfa_wrap.specs.Wrapped.{span_of}
use Rattle.vfa_xfer.proofs.CastRows.{natural_none, natural_some}
use Rattle.vfa_xfer.proofs.casts.natural_bound.Goals as goal

pub returns-then-top-ends : goal.returns-then-top-ends
returns-then-top-ends g c = natural_none g.row.W (shown_cell_ends c.args.ends.now) c.most-top.result c.most-top.ensures c.if-top-ends.true

pub returns : goal.returns
returns g c = natural_some g.row.W (shown_cell_ends c.args.ends.now) c.most-top.result c.min.result c.min-2.result (span_of c.arc.result)
    c.most-top.ensures c.if-top-ends.false c.min.ensures c.min-2.ensures c.arc.ensures
