use Rattle.std.proofs.Common.{arith, ◌∙◌, sym}
use Rattle.vfa_word.specs.Operations.{whole_unsigned}
use Rattle.vfa_wrap.specs.declared.reading.Reading.TheVariants.{Unsigned}
use Rattle.vfa_wrap.proofs.WholePlaceLaws.{within_place, below_place, above_place, unsigned_number}
use Rattle.vfa_wrap.proofs.places.unsigned_place.Goals as goal

pub returns-then-not-overflows_u : goal.returns-then-not-overflows_u
returns-then-not-overflows_u g c =
    within_place Unsigned g.row.W c.bits.result (whole_unsigned c.args.op c.args.x c.args.y) (grind (arith, c.if-not-overflows_u.ensures, c.overflows_u.ensures))
    (c.bits.ensures.value ∙ c.number.ensures.number ∙ sym (unsigned_number c.args.op g.row.W c.args.x c.args.y))

pub returns-then-is_negative : goal.returns-then-is_negative
returns-then-is_negative g c =
    below_place Unsigned g.row.W (whole_unsigned c.args.op c.args.x c.args.y) (grind (arith, c.if-not-overflows_u.ensures, c.overflows_u.ensures))
    (sym c.is_negative.ensures ∙ c.if-is_negative.true)

pub returns : goal.returns
returns g c =
    above_place Unsigned g.row.W (whole_unsigned c.args.op c.args.x c.args.y) (grind (arith, c.if-not-overflows_u.ensures, c.overflows_u.ensures))
    (sym c.is_negative.ensures ∙ c.if-is_negative.false)
