use Rattle.std.proofs.Common.{subst}
use Rattle.vfa_ir.specs.Reads.{IsAccepted}
use Rattle.vfa_opt.proofs.acceptance.checked.Goals as goal

pub check-requires : goal.check-requires
check-requires c =
    c.accepted_may_be_checked.ensures c.args.text.now c.in-Ok.read.function c.in-Ok.read.lines
    (subst (λ t. IsAccepted c.args.text.now t c.in-Ok.read.function c.in-Ok.read.lines) c.requires c.in-Ok.ensures.reads)
