use Rattle.std.proofs.Common.{sym, ap, ◌∙◌, ◌∷◌, subst, ne_eqb}
use Rattle.std.specs.Str.{byte}
use Rattle.vfa_read.specs.Tables.{fits_number}
use Rattle.vfa_read.proofs.Ranges.{NoNumber, minus_no_number, plain_no_number}
use Rattle.vfa_read.proofs.numbers.fits_number.Goals as goal

pub returns-in_default-magnitude : goal.returns-in_default-magnitude
returns-in_default-magnitude c =
    let after = c.in-Some.after.now in
    sym (ap (fits_number c.args.width) (c.in-Some.ensures ∙ ap (λ z. z ∷ after) c.if-first-eq45.true)
    ∙ minus_no_number c.args.width after c.requires.most c.in_default-magnitude.ensures)

pub returns-in_default-magnitude-2 : goal.returns-in_default-magnitude-2
returns-in_default-magnitude-2 c =
    let after = c.in-Some.after.now in
    let text_is = c.in-Some.ensures in
    sym (ap (fits_number c.args.width) text_is
    ∙ plain_no_number c.args.width c.in-Some.first after (ne_eqb c.in-Some.first (byte "-") c.if-first-eq45.false) c.requires.most (subst NoNumber text_is c.in_default-magnitude-2.ensures))
