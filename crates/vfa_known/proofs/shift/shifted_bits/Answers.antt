use Rattle.std.proofs.Common.{◌∙◌, ap, sym}
use Rattle.vfa_known.specs.Shift.{shift_of}
use Rattle.vfa_known.proofs.Places.{shifted_is}
use Rattle.vfa_known.proofs.shift.shifted_bits.Goals as goal

pub returns-in-Left : goal.returns-in-Left
returns-in-Left g c =
    c.bits.ensures.value ∙ c.shl.ensures
    ∙ ap (λ shift. shift_of shift g.row.W c.cut-number.result c.args.amount) (sym c.in-Left.is)
    ∙ shifted_is c.args.shift g.row.W c.args.bits c.cut-number.result c.args.amount c.requires.fits c.cut-number.ensures

pub returns-in-Logical : goal.returns-in-Logical
returns-in-Logical g c =
    c.bits-in-Logical.ensures.value ∙ c.lshr.ensures
    ∙ ap (λ shift. shift_of shift g.row.W c.cut-number.result c.args.amount) (sym c.in-Logical.is)
    ∙ shifted_is c.args.shift g.row.W c.args.bits c.cut-number.result c.args.amount c.requires.fits c.cut-number.ensures

pub returns-in-Arithmetic : goal.returns-in-Arithmetic
returns-in-Arithmetic g c =
    c.bits-in-Arithmetic.ensures.value ∙ c.ashr.ensures
    ∙ ap (λ shift. shift_of shift g.row.W c.cut-number.result c.args.amount) (sym c.in-Arithmetic.is)
    ∙ shifted_is c.args.shift g.row.W c.args.bits c.cut-number.result c.args.amount c.requires.fits c.cut-number.ensures
