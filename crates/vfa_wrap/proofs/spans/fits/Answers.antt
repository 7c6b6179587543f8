use Rattle.vfa_wrap.specs.Ends.{shown_ends}
use Rattle.vfa_wrap.proofs.SpanLaws.{each_fits}
use Rattle.vfa_wrap.proofs.spans.fits.Goals as goal

pub returns-clause-exact : goal.returns-clause-exact
returns-clause-exact g c = c.lies.ensures _ c.places.ensures

pub returns-clause-each : goal.returns-clause-each
returns-clause-each g c =
    each_fits c.args.op c.args.reading g.row.W (shown_ends c.args.a.now) (shown_ends c.args.b.now) c.requires.left c.requires.right _ (returns-clause-exact g c)
