use Rattle.std.proofs.Common.{◌∙◌, ap, sym, Some, true}
use Rattle.std.specs.Option.{option_map}
use Rattle.vfa_dom.specs.Best.{Masks}
use Rattle.vfa_known.specs.Cube.{in_masks}
use Rattle.vfa_known.specs.Known.{in_known}
use Rattle.vfa_wrap.specs.Wrapped.{span_of}
use Rattle.vfa_fact.specs.Cells.{marked}
use Rattle.vfa_fact.specs.Views.{numbers_of, in_test}
use Rattle.vfa_xfer.proofs.Wanted.{kept_is}
use Rattle.vfa_xfer.proofs.Widened.{made_cell}
use Rattle.vfa_xfer.proofs.restrictions.kept.Goals as goal

pub returns-in-Some : goal.returns-in-Some
returns-in-Some g c wanted agree =
    ap Some (made_cell c.of.result g.row.W (Some (numbers_of c.in-Some.rest)) true c.of.ensures.width c.of.ensures.numbers c.of.ensures.mark)
    ∙ ap (option_map (marked g.row.W)) (ap (option_map numbers_of) (sym c.in-Some.is) ∙ c.sharp.ensures.exact
    ∙ kept_is (numbers_of c.args.fact.now) (in_known g.row.W c.known.result) (span_of c.arc.result) (in_test g.row.W c.args.test.now) wanted c.args.fact.now.sharp
    c.arc.ensures.span (λ x. ap (λ (m : Masks). in_masks g.row.W m x) c.known.ensures.masks) agree)

pub returns-in-None : goal.returns-in-None
returns-in-None g c wanted agree =
    ap (option_map (marked g.row.W)) (ap (option_map numbers_of) (sym c.in-None.is) ∙ c.sharp.ensures.exact
    ∙ kept_is (numbers_of c.args.fact.now) (in_known g.row.W c.known.result) (span_of c.arc.result) (in_test g.row.W c.args.test.now) wanted c.args.fact.now.sharp
    c.arc.ensures.span (λ x. ap (λ (m : Masks). in_masks g.row.W m x) c.known.ensures.masks) agree)
