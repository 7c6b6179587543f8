use Rattle.std.proofs.Common.{◌∙◌, arith}
use Rattle.vfa_dom.specs.Sets.{meet}
use Rattle.vfa_known.specs.Known.{in_known}
use Rattle.vfa_wrap.specs.Wrapped.{span_of, in_arc}
use Rattle.vfa_fact.proofs.ArcIntervals.{arc_plain_at, arc_split_at}
use Rattle.vfa_fact.proofs.test.Test.within.Goals as goal

pub returns-then-first-last : goal.returns-then-first-last
returns-then-first-last g c = let test = c.args.self.now in let arc = c.args.arc.now in
    c.in_two.ensures
    ∙ arc_plain_at g.row.W (span_of arc) (meet (in_arc g.row.W test.two) (meet (in_arc g.row.W test.one) (in_known g.row.W test.cube))) arc.arc
    c.bits-first.result c.bits-last.result (c.bits-first.ensures.value ∙ c.first.ensures) (c.bits-last.ensures.value ∙ c.last.ensures) (omega arith)

pub returns : goal.returns
returns g c = let test = c.args.self.now in let arc = c.args.arc.now in
    arc_split_at g.row.W (span_of arc) (meet (in_arc g.row.W test.two) (meet (in_arc g.row.W test.one) (in_known g.row.W test.cube))) arc.arc
    c.most.result c.bits-first.result c.bits-last.result c.in_two-2.result c.in_two-3.result c.both_parts.result
    (c.bits-first.ensures.value ∙ c.first.ensures) (c.bits-last.ensures.value ∙ c.last.ensures) (omega arith) c.most.ensures
    c.in_two-2.ensures c.in_two-3.ensures c.both_parts.ensures
