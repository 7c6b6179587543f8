use Rattle.vfa_wrap.specs.Ends.{shown_ends}
use Rattle.vfa_wrap.proofs.SpanLaws.{least_natural}
use Rattle.vfa_wrap.proofs.spans.least_of.Goals as goal

pub returns-in-Unsigned : goal.returns-in-Unsigned
returns-in-Unsigned g c =
    least_natural c.args.reading g.row.W c.cut.result (shown_ends c.args.e.now) c.in-Unsigned.is c.requires.ends c.cut.ensures
