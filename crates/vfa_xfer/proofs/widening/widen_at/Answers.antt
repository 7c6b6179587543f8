use Rattle.std.proofs.Common.{◌∙◌, ap, sym}
use Rattle.std.specs.Option.{option_map}
use Rattle.vfa_fact.specs.Views.{numbers_of}
use Rattle.vfa_xfer.proofs.Widened.{none_widened, widened_none, both_widened}
use Rattle.vfa_xfer.proofs.widening.widen_at.Goals as goal

pub returns-in_default : goal.returns-in_default
returns-in_default g c =
    c.unmarked.ensures.value ∙ none_widened c.args.round c.args.marks.now c.args.old.now c.args.new.now c.typed.ensures.cell
    (c.requires.old ∙ sym c.requires.new) (ap (option_map numbers_of) (sym c.in_default.is) ∙ c.typed.ensures.numbers)

pub returns-in_default-typed : goal.returns-in_default-typed
returns-in_default-typed g c =
    c.unmarked-in_default-typed.ensures.value ∙ widened_none c.args.round c.args.marks.now c.args.old.now c.args.new.now c.typed-2.ensures.cell
    (ap (option_map numbers_of) (sym c.in_default-typed.is) ∙ c.typed-2.ensures.numbers)

pub returns : goal.returns
returns g c =
    both_widened c.args.round c.args.marks.now c.args.old.now c.args.new.now c.of.result g.row.W (numbers_of c.in-Some.one) (numbers_of c.in-Some-typed.two)
    (numbers_of c.join.result) (numbers_of c.widen_fact-wide.result) c.both_marked.result c.requires.old
    (ap (option_map numbers_of) (sym c.in-Some.is) ∙ c.typed.ensures.numbers) (ap (option_map numbers_of) (sym c.in-Some-typed.is) ∙ c.typed-2.ensures.numbers)
    c.join.ensures.exact c.widen_fact-wide.ensures c.of.ensures.width c.of.ensures.numbers c.of.ensures.mark c.both_marked.ensures
