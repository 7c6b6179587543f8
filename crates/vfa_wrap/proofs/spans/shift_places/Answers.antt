use Rattle.vfa_wrap.specs.Ends.{shown_ends}
use Rattle.vfa_wrap.proofs.SpanLaws.{places_from, shift_ends}
use Rattle.vfa_wrap.proofs.spans.shift_places.Goals as goal

pub returns : goal.returns
returns g c =
    let ends = shift_ends c.args.reading g.row.W (shown_ends c.args.a.now) (shown_ends c.args.b.now) c.least_of.result c.most_of.result
    c.least_of.ensures c.most_of.ensures in
    places_from c.args.reading g.row.W _ _ _ _ _ c.shifted_place.ensures ends.0 c.shifted_place-2.ensures ends.1
