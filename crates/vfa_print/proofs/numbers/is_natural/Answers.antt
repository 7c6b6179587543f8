use Rattle.std.proofs.Common.{sym, lt-ltb, ◌-◌, subst, ◌<◌}
use Rattle.vfa_print.proofs.Widths.{below_wide}
use Rattle.vfa_print.proofs.numbers.is_natural.Goals as goal

pub returns-in-None : goal.returns-in-None
returns-in-None c =
    sym (lt-ltb _ _ (below_wide (c.args.width - 1) c.args.bits (λ less. c.in-None.ensures (subst (λ n. n < 128) (sym c.saturating_sub.ensures) less)) c.ranges.bits.fits))
