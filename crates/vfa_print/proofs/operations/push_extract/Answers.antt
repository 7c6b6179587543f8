use Rattle.std.proofs.Common.{sym}
use Rattle.vfa_print.proofs.operations.push_extract.Goals as goal

pub returns : goal.returns
returns c =
    rw (sym c.in_ok-word.ensures) (rw (sym c.in_ok-push_pair_type.ensures) (rw (sym c.value.ensures)
    (rw (sym c.in_ok-local.ensures) (rw (sym c.in_ok-mark.ensures) c.number.ensures))))
