use Rattle.vfa_xfer.proofs.counts.leading_arc.Goals as goal

pub leading_zeros-least-requires-clause-number : goal.leading_zeros-least-requires-clause-number
leading_zeros-least-requires-clause-number g c = c.in_ok-ends.ensures.reached.hi.fits

pub leading_zeros-most-requires-clause-number : goal.leading_zeros-most-requires-clause-number
leading_zeros-most-requires-clause-number g c = c.in_ok-ends.ensures.reached.lo.fits
