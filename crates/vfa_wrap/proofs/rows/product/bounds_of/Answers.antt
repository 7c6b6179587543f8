use Rattle.vfa_wrap.proofs.RowSteps.{least_read, greatest_read}
use Rattle.vfa_wrap.proofs.rows.product.bounds_of.Goals as goal

pub returns-clause-least : goal.returns-clause-least
returns-clause-least c =
    let r = c.ranges in
    least_read _ _ _ _ c.min.result c.min-2.result c.min-3.result r.first r.second r.third r.fourth
    c.min.ensures.value c.min-2.ensures.value c.min-3.ensures.value

pub returns-clause-greatest : goal.returns-clause-greatest
returns-clause-greatest c =
    let r = c.ranges in
    greatest_read _ _ _ _ c.max.result c.max-2.result c.max-3.result r.first r.second r.third r.fourth
    c.max.ensures.value c.max-2.ensures.value c.max-3.ensures.value
