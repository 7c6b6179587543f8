use Rattle.std.proofs.Common.{arith}
use Rattle.std.proofs.Math.Pow.{pow_mono}
use Rattle.vfa_wrap.proofs.rows.product.product_within.Goals as goal

pub returns-in_err-product : goal.returns-in_err-product
returns-in_err-product g c =
    rw c.from_residual.ensures (λ h. c.in_err-product.ensures (omega (arith, pow_mono c.requires.most, h)))
