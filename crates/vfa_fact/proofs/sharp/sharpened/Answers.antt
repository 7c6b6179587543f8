use Rattle.std.proofs.Common.{sym, ◌∙◌, ap, Some, arith}
use Rattle.std.specs.Option.{option_map}
use Rattle.vfa_known.specs.Known.{in_known}
use Rattle.vfa_wrap.specs.Wrapped.{span_of}
use Rattle.vfa_fact.specs.Views.{numbers_of}
use Rattle.vfa_fact.proofs.SharpArcs.{sharp_in_fact}
use Rattle.vfa_fact.proofs.sharp.sharpened.Goals as goal

pub returns-in_err-numbers : goal.returns-in_err-numbers
returns-in_err-numbers g c =
    ap (option_map numbers_of) c.from_residual.ensures ∙ sym c.in_err-numbers.was ∙ c.numbers_within.ensures

pub from_numbers-requires : goal.from_numbers-requires
from_numbers-requires g c =
    let arc = c.args.arc.now in
    let fact = sharp_in_fact g.row.W (span_of arc) (in_known g.row.W c.args.cube.now) arc.arc c.in_ok-numbers.numbers
    (sym c.numbers_within.ensures ∙ c.in_ok-numbers.was) in
    (omega arith, (c.args.cube.now.width, fact))

pub returns : goal.returns
returns g c = ap Some c.from_numbers.ensures ∙ sym c.in_ok-numbers.was ∙ c.numbers_within.ensures
