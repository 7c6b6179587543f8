use Rattle.std.proofs.Common.{◌*ℤ◌, ◌∙◌, arith}
use Rattle.std.specs.Int.{int_min, int_max}
use Rattle.std.proofs.lemmas.Int.{ints, clamps}
use Rattle.vfa_wrap.proofs.RowSteps.{outside, read_product, product_read, same_of_four}
use Rattle.vfa_wrap.proofs.rows.product.corners.Goals as goal

pub returns-in_err-first : goal.returns-in_err-first
returns-in_err-first c =
    let a = c.args in
    rw c.from_residual.ensures
    (outside a.p a.q a.r a.s (a.p *ℤ a.r) _ (read_product a.p a.r c.ranges.p c.ranges.r)
    (omega (arith, ints, clamps)) (omega (arith, ints, clamps)) (λ f. c.in_err-first.ensures f))

pub returns-in_err-second : goal.returns-in_err-second
returns-in_err-second c =
    let a = c.args in
    rw c.from_residual-in_err-second.ensures
    (outside a.p a.q a.r a.s (a.p *ℤ a.s) _ (read_product a.p a.s c.ranges.p c.ranges.s)
    (omega (arith, ints, clamps)) (omega (arith, ints, clamps)) (λ f. c.in_err-second.ensures f))

pub returns-in_err-third : goal.returns-in_err-third
returns-in_err-third c =
    let a = c.args in
    rw c.from_residual-in_err-third.ensures
    (outside a.p a.q a.r a.s (a.q *ℤ a.r) _ (read_product a.q a.r c.ranges.q c.ranges.r)
    (omega (arith, ints, clamps)) (omega (arith, ints, clamps)) (λ f. c.in_err-third.ensures f))

pub returns-in_err-fourth : goal.returns-in_err-fourth
returns-in_err-fourth c =
    let a = c.args in
    rw c.from_residual-in_err-fourth.ensures
    (outside a.p a.q a.r a.s (a.q *ℤ a.s) _ (read_product a.q a.s c.ranges.q c.ranges.s)
    (omega (arith, ints, clamps)) (omega (arith, ints, clamps)) (λ f. c.in_err-fourth.ensures f))

pub returns : goal.returns
returns c =
    let a = c.args in
    let first = c.in_ok-first.ensures {u = tt} in
    let second = c.in_ok-second.ensures {u = tt} in
    let third = c.in_ok-third.ensures {u = tt} in
    let fourth = c.in_ok-fourth.ensures {u = tt} in
    let e = product_read a.p a.r c.in_ok-first.first c.ranges.p c.ranges.r first.0 first.1 in
    let f = product_read a.p a.s c.in_ok-second.second c.ranges.p c.ranges.s second.0 second.1 in
    let g = product_read a.q a.r c.in_ok-third.third c.ranges.q c.ranges.r third.0 third.1 in
    let h = product_read a.q a.s c.in_ok-fourth.fourth c.ranges.q c.ranges.s fourth.0 fourth.1 in (
      c.bounds_of.ensures.least
          ∙ same_of_four (λ w x y z. int_min (int_min w x) (int_min y z)) _ _ _ _ _ _ _ _ e f g h,
      c.bounds_of.ensures.greatest
          ∙ same_of_four (λ w x y z. int_max (int_max w x) (int_max y z)) _ _ _ _ _ _ _ _ e f g h,
    )
