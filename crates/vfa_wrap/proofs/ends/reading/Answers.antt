use Rattle.std.proofs.Common.{◌≡◌, ◌-◌, ◌^◌, ◌≤◌, ℕ, arith}
use Rattle.std.proofs.lemmas.Int.{ints}
use Rattle.std.proofs.Math.Nat.{pow-le-pow_right}
use Rattle.vfa_wrap.proofs.ends.reading.Goals as goal

small : (w h : ℕ) → w ≤ 128 → h ≡ 2 ^ (w - 1) → h ≤ 2 ^ 127
small w h most e =
    let low : w - 1 ≤ 127 = omega arith in
    let fits : 2 ^ (w - 1) ≤ 2 ^ 127 = pow-le-pow_right (omega arith) low in
    omega (arith, fits, e)

pub overflow_cast-result-2 : goal.overflow_cast-result-2
overflow_cast-result-2 g c =
    let low = small g.row.W c.half-half.result c.requires.width.most c.half-half.ensures.value in
    omega (arith, ints, low)

pub returns : goal.returns
returns g c =
    let low = small g.row.W c.half-half.result c.requires.width.most c.half-half.ensures.value in
    omega (arith, ints, low, c.half-half.ensures.value)
