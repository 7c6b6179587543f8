use Rattle.vfa_mean.proofs.RenamedPrintable.{is_printable}
use Rattle.vfa_mean.proofs.numbering.numbered_is_printable.Goals as goal

pub returns : goal.returns
returns c = is_printable
