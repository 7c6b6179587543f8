use Rattle.vfa_wrap.specs.Ends.{shown_ends}
use Rattle.vfa_wrap.specs.Wrapped.{span_of}
use Rattle.vfa_wrap.proofs.SpanLaws.{bound_none, bound_holds_at}
use Rattle.vfa_wrap.proofs.spans.bound.Goals as goal

pub returns-clause-exact : goal.returns-clause-exact
returns-clause-exact g c = c.cut.ensures _ c.places.ensures

pub returns-clause-holds : goal.returns-clause-holds
returns-clause-holds g c =
    bound_holds_at c.args.op c.args.reading g.row.W (shown_ends c.args.a.now) (shown_ends c.args.b.now) c.requires.left c.requires.right _
    c.requires.width.least (returns-clause-exact g c)

pub returns-clause-none : goal.returns-clause-none
returns-clause-none g c =
    bound_none c.args.op c.args.reading g.row.W (shown_ends c.args.a.now) (shown_ends c.args.b.now) c.requires.left c.requires.right _ span_of
    (returns-clause-exact g c)
