use Rattle.std.proofs.Common.{◌<◌, ◌≤◌, ◌-◌, ◌^◌, ◌⊎◌, inl, inr, arith}
use Rattle.std.proofs.Math.Pow.{pow_mono}
use Rattle.std.proofs.lemmas.Bool.{cases_lt}
use Rattle.vfa_opt.proofs.generator.lines.magnitude.Goals as goal

pub overflow_shl-result : goal.overflow_shl-result
overflow_shl-result c = by (cases_lt c.args.width 32)
  where
    by : (c.args.width < 32) ⊎ (32 ≤ c.args.width) → c.args.width < 32
    by (inl small) = small
    by (inr large) =
        let wide : 2 ^ 16 ≤ 2 ^ (c.args.width - 1) = pow_mono {i = 16} {j = c.args.width - 1} (omega arith) in omega arith
