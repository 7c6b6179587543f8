-- The exit status of each way to end.
use Rattle.std.specs.Prelude.{ℕ}
use Rattle.vfa.specs.declared.status.Status.{Status}
use Rattle.vfa.specs.declared.status.Status.TheVariants.{Done, Refused, Usage, ReadFault, WriteFault, Memory}

abbrev pub exit_number_of : Status → ℕ
exit_number_of Done = 0
exit_number_of Refused = 1
exit_number_of Usage = 2
exit_number_of ReadFault = 3
exit_number_of WriteFault = 4
exit_number_of Memory = 5
