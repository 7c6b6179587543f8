use Rattle.std.proofs.Common.{arith, inr, ◌-◌, ◌^◌}
use Rattle.vfa_read.proofs.DigitLemmas.{too_large}
use Rattle.vfa_read.proofs.numbers.magnitude.Goals as goal

pub returns-then-value-digit : goal.returns-then-value-digit
returns-then-value-digit c =
    let text = c.args.text.now in
    inr (too_large text c.digits.byte-index c.digits.value (2 ^ 128 - 1) (omega arith) c.digits.invariant.1 c.if-not-is_ascii_digit.ensures.bound (omega arith))
