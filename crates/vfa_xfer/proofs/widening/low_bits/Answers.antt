use Rattle.std.proofs.Common.{◌-◌, bit_and, ap, ◌∙◌}
use Rattle.std.proofs.lemmas.Nat.{and_mask, one_shl}
use Rattle.vfa_xfer.proofs.widening.low_bits.Goals as goal

pub returns-then-count-lt128 : goal.returns-then-count-lt128
returns-then-count-lt128 c =
    ap (λ p. bit_and c.args.bits (p - 1)) (one_shl c.args.count 128 c.if-count-lt128.true) ∙ and_mask c.args.bits c.args.count
