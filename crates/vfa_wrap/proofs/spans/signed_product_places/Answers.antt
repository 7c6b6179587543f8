use Rattle.vfa_wrap.specs.Ends.{shown_ends}
use Rattle.vfa_wrap.specs.declared.reading.Reading.TheVariants.{Signed}
use Rattle.vfa_wrap.proofs.SpanLaws.{places_from, product_ends}
use Rattle.vfa_wrap.proofs.spans.signed_product_places.Goals as goal

pub returns : goal.returns
returns g c =
    let ends = product_ends Signed g.row.W (shown_ends c.args.a.now) (shown_ends c.args.b.now) c.least_of-p.result c.most_of-q.result c.least_of-r.result c.most_of-s.result
    c.least_of-p.ensures c.most_of-q.ensures c.least_of-r.ensures c.most_of-s.ensures in
    places_from Signed g.row.W _ _ _ _ _
    (c.lower-3.ensures _ _ (c.lower.ensures _ _ c.result_place-first.ensures c.result_place-second.ensures)
    (c.lower-2.ensures _ _ c.result_place-third.ensures c.result_place-fourth.ensures)) ends.0
    (c.higher-3.ensures _ _ (c.higher.ensures _ _ c.result_place-first.ensures c.result_place-second.ensures)
    (c.higher-2.ensures _ _ c.result_place-third.ensures c.result_place-fourth.ensures)) ends.1
