use Rattle.vfa_print.proofs.Widths.{negated}
use Rattle.vfa_print.proofs.numbers.magnitude.Goals as goal

pub returns-in-None : goal.returns-in-None
returns-in-None c =
    negated c.args.width c.args.bits c.wrapping_neg.result c.in-None.ensures c.requires c.ranges.bits.fits c.wrapping_neg.type_inv c.wrapping_neg.ensures
