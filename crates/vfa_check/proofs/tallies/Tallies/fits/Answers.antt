use Rattle.std.proofs.Common.{refl}
use Rattle.vfa_check.proofs.tallies.Tallies.fits.Goals as goal

pub returns-then-names_each-clause-fits : goal.returns-then-names_each-clause-fits
returns-then-names_each-clause-fits c = (
  λ yes. record { each_edge = c.if-names_each.ensures.names.0 refl; one_operand = c.has_one_operand.ensures.one.0 yes },
  λ fits. c.has_one_operand.ensures.one.1 fits.one_operand,
)
