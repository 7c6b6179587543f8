use Rattle.std.proofs.Common.{◌∙◌, arith}
use Rattle.vfa_dom.specs.Sets.{meet}
use Rattle.vfa_known.specs.Known.{in_known}
use Rattle.vfa_wrap.specs.Wrapped.{span_of, in_arc}
use Rattle.vfa_fact.proofs.ArcIntervals.{arc_plain_at, arc_split_at}
use Rattle.vfa_fact.proofs.sharp.numbers_in_both.Goals as goal

pub returns-then-first-last : goal.returns-then-first-last
returns-then-first-last g c = let within = c.args.within.now in
    c.between_in.ensures
    ∙ arc_plain_at g.row.W (span_of within) (meet (in_arc g.row.W c.args.arc.now) (in_known g.row.W c.args.cube.now)) within.arc
    c.bits-first.result c.bits-last.result (c.bits-first.ensures.value ∙ c.first.ensures) (c.bits-last.ensures.value ∙ c.last.ensures) (omega arith)

pub returns : goal.returns
returns g c = let within = c.args.within.now in
    arc_split_at g.row.W (span_of within) (meet (in_arc g.row.W c.args.arc.now) (in_known g.row.W c.args.cube.now)) within.arc
    c.most.result c.bits-first.result c.bits-last.result c.between_in-2.result c.between_in-3.result c.both_parts.result
    (c.bits-first.ensures.value ∙ c.first.ensures) (c.bits-last.ensures.value ∙ c.last.ensures) (omega arith) c.most.ensures
    c.between_in-2.ensures c.between_in-3.ensures c.both_parts.ensures
