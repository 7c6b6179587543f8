use Rattle.std.proofs.Common.{◌∙◌, arith}
use Rattle.vfa_known.specs.Known.{in_known}
use Rattle.vfa_wrap.specs.Wrapped.{span_of}
use Rattle.vfa_fact.proofs.ArcIntervals.{cut_plain_at, cut_split_at}
use Rattle.vfa_fact.proofs.sharp.between_in.Goals as goal

pub returns-then-first-last : goal.returns-then-first-last
returns-then-first-last g c = let arc = c.args.arc.now in
    c.between.ensures
    ∙ cut_plain_at g.row.W c.args.low c.args.high (span_of arc) (in_known g.row.W c.args.cube.now) arc.arc c.max-from.result c.min-upto.result c.bits-first.result c.bits-last.result
    (c.bits-first.ensures.value ∙ c.first.ensures) (c.bits-last.ensures.value ∙ c.last.ensures) (omega arith) c.max-from.ensures c.min-upto.ensures

pub returns : goal.returns
returns g c = let arc = c.args.arc.now in
    cut_split_at g.row.W c.args.low c.args.high (span_of arc) (in_known g.row.W c.args.cube.now) arc.arc c.max-from.result c.min-upto.result c.bits-first.result c.bits-last.result
    c.between-2.result c.between-3.result c.both_parts.result
    (c.bits-first.ensures.value ∙ c.first.ensures) (c.bits-last.ensures.value ∙ c.last.ensures) (omega arith) c.max-from.ensures c.min-upto.ensures
    c.between-2.ensures c.between-3.ensures c.both_parts.ensures
