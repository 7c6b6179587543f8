use Rattle.vfa_print.proofs.PrintableWhereFit.{fit_is_printable}
use Rattle.vfa_print.proofs.laws.fit_is_printable.Goals as goal

pub returns : goal.returns
returns c = fit_is_printable
