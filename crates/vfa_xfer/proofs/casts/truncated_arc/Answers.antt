use Rattle.vfa_fact.specs.Fact.{span_in}
use Rattle.vfa_wrap.specs.Wrapped.{span_of}
use Rattle.vfa_xfer.proofs.CastRows.{low_part, low_full}
use Rattle.vfa_xfer.proofs.casts.truncated_arc.Goals as goal

pub returns-then-extent-most : goal.returns-then-extent-most
returns-then-extent-most g c =
    low_part c.args.from g.row.W c.extent.result c.most.result (span_in c.args.numbers.now) (span_of c.arc.result) c.extent.ensures.value c.most.ensures c.if-extent-most.true c.arc.ensures

pub returns : goal.returns
returns g c =
    low_full c.args.from g.row.W c.extent.result c.most.result (span_in c.args.numbers.now) (span_of c.any.result) c.extent.ensures.value c.most.ensures c.if-extent-most.false c.any.ensures.span
