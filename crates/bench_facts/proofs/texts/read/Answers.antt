use Rattle.std.proofs.Common.{◌∙◌, subst}
use Rattle.vfa_ir.specs.Reads.{IsAccepted}
use Rattle.bench_facts.proofs.texts.read.Goals as goal

pub check-requires : goal.check-requires
check-requires c =
    c.accepted_may_be_checked.ensures c.args.text.now c.in_ok-read.read.function c.in_ok-read.read.lines
    (subst (λ t. IsAccepted c.args.text.now t c.in_ok-read.read.function c.in_ok-read.read.lines) (c.as_slice.ensures.value ∙ c.in_ok-tokens.ensures.all) c.in_ok-read.ensures.reads)
