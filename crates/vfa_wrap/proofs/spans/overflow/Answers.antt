use Rattle.vfa_wrap.specs.Ends.{shown_ends}
use Rattle.vfa_wrap.proofs.SpanLaws.{overflow_tells}
use Rattle.vfa_wrap.proofs.spans.overflow.Goals as goal

pub returns-clause-exact : goal.returns-clause-exact
returns-clause-exact g c = c.overflow.ensures _ c.places.ensures

pub returns-clause-each : goal.returns-clause-each
returns-clause-each g c =
    overflow_tells c.args.op c.args.reading g.row.W (shown_ends c.args.a.now) (shown_ends c.args.b.now) c.requires.left c.requires.right _ (returns-clause-exact g c)
