use Rattle.vfa_xfer.proofs.Ranked.{other_span, same_span}
use Rattle.vfa_xfer.proofs.ranks.fills_low_span.Goals as goal

pub returns-then-numbers-low_bits : goal.returns-then-numbers-low_bits
returns-then-numbers-low_bits c =
    other_span c.args.width c.args.numbers.now c.requires.width c.requires.fact c.trailing_ones-run.result c.low_bits.result
    c.trailing_ones-run.ensures c.low_bits.ensures c.if-numbers-low_bits.true

pub returns : goal.returns
returns c =
    same_span c.args.width c.args.numbers.now c.requires.width c.requires.fact c.trailing_ones-run.result c.low_bits.result
    c.trailing_ones-run.ensures c.low_bits.ensures c.low_bits-2.result c.low_bits-2.ensures c.if-numbers-low_bits.false
