use Rattle.std.proofs.Common.{◌≤◌, ◌<◌, ◌^◌, sym, arith}
use Rattle.std.proofs.Math.Nat.{mod-eq_of_lt, pow-le-pow_right}
use Rattle.vfa_rewrite.proofs.divisions.low_bits.Goals as goal

pub returns-then-width-ge128 : goal.returns-then-width-ge128
returns-then-width-ge128 c =
    let two : 0 < 2 = omega arith in
    let power : 2 ^ 128 ≤ 2 ^ c.args.width = pow-le-pow_right two c.if-width-ge128.true in
    let below : c.args.x < 2 ^ c.args.width = omega (arith, c.ranges.x, power) in
    sym (mod-eq_of_lt below)
