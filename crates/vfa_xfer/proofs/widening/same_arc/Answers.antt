use Rattle.std.proofs.Common.{◌∙◌}
use Rattle.vfa_wrap.specs.Wrapped.{span_of}
use Rattle.vfa_xfer.proofs.SameSpans.{other_firsts, same_firsts}
use Rattle.vfa_xfer.proofs.widening.same_arc.Goals as goal

pub returns-then-bits : goal.returns-then-bits
returns-then-bits g c =
    other_firsts (span_of c.args.one.now) (span_of c.args.other.now) c.bits.result c.bits-2.result
    (c.bits.ensures.value ∙ c.first.ensures) (c.bits-2.ensures.value ∙ c.first-2.ensures) c.if-bits.true

pub returns : goal.returns
returns g c =
    same_firsts (span_of c.args.one.now) (span_of c.args.other.now) c.bits.result c.bits-2.result c.bits-3.result c.bits-4.result
    (c.bits.ensures.value ∙ c.first.ensures) (c.bits-2.ensures.value ∙ c.first-2.ensures)
    (c.bits-3.ensures.value ∙ c.last.ensures) (c.bits-4.ensures.value ∙ c.last-2.ensures) c.if-bits.false
