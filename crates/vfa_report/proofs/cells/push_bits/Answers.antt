use Rattle.std.proofs.Common.{◌++◌, ◌∷◌, [], ap, ◌∙◌, arith}
use Rattle.vfa_report.proofs.LineTexts.{bits_more, bits_all}
use Rattle.vfa_report.proofs.cells.push_bits.Goals as goal

pub places-preserved : goal.places-preserved
places-preserved c =
    bits_more c.args.numbers.now c.args.width c.places.above _ c.places.text.items c.push.new.self.items c.places-test.true
    (c.in_ok-push.ensures.items ∙ ap (λ b. c.places.text.items ++ b ∷ []) c.bit_letter.ensures) c.places.invariant

pub returns : goal.returns
returns c = bits_all c.args.numbers.now c.args.width c.places.above _ c.places.text.items (omega arith) c.places.invariant
