use Rattle.vfa_print.proofs.ReadsAgain.{reads_again}
use Rattle.vfa_print.proofs.laws.printed_reads_again.Goals as goal

pub returns : goal.returns
returns c = reads_again
