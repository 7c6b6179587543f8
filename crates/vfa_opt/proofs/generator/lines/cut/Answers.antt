use Rattle.std.proofs.Common.{◌<◌, ◌≤◌, ◌^◌, sym, arith}
use Rattle.std.proofs.Math.Nat.{mod-eq_of_lt}
use Rattle.std.proofs.Math.Pow.{pow_mono}
use Rattle.vfa_opt.proofs.generator.lines.cut.Goals as goal

pub returns-else-width-lt17-clause-number : goal.returns-else-width-lt17-clause-number
returns-else-width-lt17-clause-number c =
    let wide : 2 ^ 16 ≤ 2 ^ c.args.width = pow_mono {i = 16} {j = c.args.width} (omega arith) in
    let below : c.args.number < 2 ^ c.args.width = omega arith in
    sym (mod-eq_of_lt below)

pub returns-else-width-lt17-clause-below : goal.returns-else-width-lt17-clause-below
returns-else-width-lt17-clause-below c =
    let wide : 2 ^ 16 ≤ 2 ^ c.args.width = pow_mono {i = 16} {j = c.args.width} (omega arith) in omega arith
