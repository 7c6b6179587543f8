use Rattle.std.proofs.Common.{arith, ◌∙◌, sym}
use Rattle.vfa_word.specs.Operations.{whole_signed}
use Rattle.vfa_wrap.specs.declared.reading.Reading.TheVariants.{Signed}
use Rattle.vfa_wrap.proofs.WholePlaceLaws.{within_place, below_place, above_place, signed_number}
use Rattle.vfa_wrap.proofs.places.signed_place.Goals as goal

pub returns-then-not-overflows_s : goal.returns-then-not-overflows_s
returns-then-not-overflows_s g c =
    within_place Signed g.row.W c.bits.result (whole_signed g.row.W c.args.op c.args.x c.args.y) (grind (arith, c.if-not-overflows_s.ensures, c.overflows_s.ensures))
    (c.bits.ensures.value ∙ c.number.ensures.number ∙ sym (signed_number c.args.op g.row.W c.args.x c.args.y c.number.ensures.left c.number.ensures.right c.requires))

pub returns-then-leaves_below : goal.returns-then-leaves_below
returns-then-leaves_below g c =
    below_place Signed g.row.W (whole_signed g.row.W c.args.op c.args.x c.args.y) (grind (arith, c.if-not-overflows_s.ensures, c.overflows_s.ensures))
    (sym c.leaves_below.ensures ∙ c.if-leaves_below.true)

pub returns : goal.returns
returns g c =
    above_place Signed g.row.W (whole_signed g.row.W c.args.op c.args.x c.args.y) (grind (arith, c.if-not-overflows_s.ensures, c.overflows_s.ensures))
    (sym c.leaves_below.ensures ∙ c.if-leaves_below.false)
