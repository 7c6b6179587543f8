use Rattle.vfa_read.proofs.LiteralBits.{minus_absurd, plain_absurd}
use Rattle.vfa_read.proofs.resolution.literals.number_bits.Goals as goal

pub returns-in_default-magnitude : goal.returns-in_default-magnitude
returns-in_default-magnitude c =
    absurd (minus_absurd c.args.width c.in-Some.byte c.args.text.now c.in-Some.after.now c.in-Some.ensures c.if-byte-eq45.true c.requires.width.most c.in_default-magnitude.ensures c.requires.fits)

pub returns-in_default-magnitude-2 : goal.returns-in_default-magnitude-2
returns-in_default-magnitude-2 c =
    absurd (plain_absurd c.args.width c.in-Some.byte c.args.text.now c.in-Some.after.now c.in-Some.ensures c.if-byte-eq45.false c.requires.width.most c.in_default-magnitude-2.ensures c.requires.fits)
