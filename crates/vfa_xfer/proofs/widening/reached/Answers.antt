use Rattle.std.proofs.Common.{◌∙◌, sym}
use Rattle.vfa_wrap.specs.Wrapped.{span_of}
use Rattle.vfa_xfer.specs.WideningLaws.{reached_early, reached_late}
use Rattle.vfa_xfer.proofs.widening.reached.Goals as goal

pub returns-then-round-lt-FIRST_FALLING_ROUND : goal.returns-then-round-lt-FIRST_FALLING_ROUND
returns-then-round-lt-FIRST_FALLING_ROUND g c =
    c.round_out.ensures.span ∙ sym (reached_early g.row.W c.args.round c.args.marks.now (span_of c.args.old.now) (span_of c.args.arc.now) c.if-round-lt-FIRST_FALLING_ROUND.true)

pub returns : goal.returns
returns g c =
    c.any.ensures.span ∙ sym (reached_late g.row.W c.args.round c.args.marks.now (span_of c.args.old.now) (span_of c.args.arc.now) c.if-round-lt-FIRST_FALLING_ROUND.false)
