use Rattle.std.proofs.Common.{◌≤◌, ◌*◌, arith, lit<}
use Rattle.std.proofs.lemmas.Nat.{mul-le}
use Rattle.std.proofs.Math.Pow.{pow_mono}
use Rattle.vfa_wrap.proofs.rows.shift.shl.Goals as goal

pub overflow_mul-a : goal.overflow_mul-a
overflow_mul-a g c =
    let a = c.args.a.now in
    let le : a.lo * c.power-2.result ≤ a.hi * c.power.result =
    rw (c.power.ensures, c.power-2.ensures)
    (mul-le a.lo _ a.hi _ c.requires.left.lo.upto (pow_mono c.requires.right.lo.upto))
    in
    record { fits = omega (arith, le, (c.in-Some.ensures {u = tt}).0, pow_mono c.requires.width.most) }

pub between-requires : goal.between-requires
between-requires g c =
    let a = c.args.a.now in
    let le : a.lo * c.power-2.result ≤ a.hi * c.power.result =
    rw (c.power.ensures, c.power-2.ensures)
    (mul-le a.lo _ a.hi _ c.requires.left.lo.upto (pow_mono c.requires.right.lo.upto))
    in
    let product = c.in-Some.ensures {u = tt} in
    (lit< tt, (c.requires.width, (omega (arith, le, product.0), omega (arith, product.0, product.1))))
