use Rattle.vfa_print.proofs.ReadsAgain.{printable_is_fit}
use Rattle.vfa_print.proofs.laws.printable_is_fit.Goals as goal

pub returns : goal.returns
returns c = printable_is_fit
