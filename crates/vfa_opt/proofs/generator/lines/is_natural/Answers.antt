use Rattle.std.proofs.Common.{◌≤◌, ◌-◌, ◌^◌, sym, arith, lt-ltb}
use Rattle.std.proofs.Math.Pow.{pow_mono}
use Rattle.vfa_opt.proofs.generator.lines.is_natural.Goals as goal

pub returns-else-width-lt17 : goal.returns-else-width-lt17
returns-else-width-lt17 c =
    let wide : 2 ^ 16 ≤ 2 ^ (c.args.width - 1) = pow_mono {i = 16} {j = c.args.width - 1} (omega arith) in
    sym (lt-ltb c.args.bits (2 ^ (c.args.width - 1)) (omega arith))
