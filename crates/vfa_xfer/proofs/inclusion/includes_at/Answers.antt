use Rattle.std.proofs.Common.{◌∙◌, ap, sym}
use Rattle.std.specs.Option.{option_map}
use Rattle.vfa_fact.specs.Views.{numbers_of}
use Rattle.vfa_xfer.proofs.Inclusions.{none_included, none_includes, both_include}
use Rattle.vfa_xfer.proofs.inclusion.includes_at.Goals as goal

pub returns-in_default : goal.returns-in_default
returns-in_default g c = none_included c.args.cell.now c.args.other.now (ap (option_map numbers_of) (sym c.in_default.is) ∙ c.typed.ensures.numbers)

pub returns-in_default-typed : goal.returns-in_default-typed
returns-in_default-typed g c =
    none_includes c.args.cell.now c.args.other.now (numbers_of c.in-Some.two) c.typed.ensures.cell (c.requires.cell ∙ sym c.requires.other)
    (ap (option_map numbers_of) (sym c.in_default-typed.is) ∙ c.typed-2.ensures.numbers) (ap (option_map numbers_of) (sym c.in-Some.is) ∙ c.typed.ensures.numbers)

pub returns : goal.returns
returns g c =
    c.includes.ensures.exact
    ∙ both_include c.args.cell.now c.args.other.now g.row.W (numbers_of c.in-Some-typed.one) (numbers_of c.in-Some.two) c.requires.cell c.requires.other
    (ap (option_map numbers_of) (sym c.in-Some-typed.is) ∙ c.typed-2.ensures.numbers) (ap (option_map numbers_of) (sym c.in-Some.is) ∙ c.typed.ensures.numbers)
