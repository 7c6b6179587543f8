use Rattle.std.proofs.Common.{◌≡◌, ℕ, true, sym, ◌∙◌, ap, Option, Some, arith}
use Rattle.std.specs.Prelude.{IsTrue, IsSomeAnd}
use Rattle.std.specs.Option.{option_map}
use Rattle.vfa_dom.specs.Sets.{meet}
use Rattle.vfa_dom.proofs.SetSearches.{meet_from}
use Rattle.vfa_known.specs.Known.{in_known}
use Rattle.vfa_known.specs.declared.known.Known.{Known}
use Rattle.vfa_wrap.specs.Arc.{in_span_fits}
use Rattle.vfa_wrap.specs.Wrapped.{span_of, in_arc}
use Rattle.vfa_wrap.specs.declared.arc.Wrapped.{Wrapped}
use Rattle.vfa_fact.specs.declared.fact.Fact.{Fact}
use Rattle.vfa_fact.specs.declared.test.Test.{Test}
use Rattle.vfa_fact.specs.Sharp.{sharp_in}
use Rattle.vfa_fact.specs.Views.{numbers_of, in_fact, in_test}
use Rattle.vfa_fact.proofs.SharpArcs.{sharp_in_has, shown_has}
use Rattle.vfa_fact.proofs.Facts.{none_tells}
use Rattle.vfa_fact.proofs.Tested.{some_tells, none_tested, tested, tested_fact}
use Rattle.vfa_fact.proofs.fact.Fact.sharp.Goals as goal

pub returns-in_err-cube-clause-exact : goal.returns-in_err-cube-clause-exact
returns-in_err-cube-clause-exact g c =
    ap (option_map numbers_of) c.from_residual.ensures
    ∙ sym (none_tested g.row.W c.args.known c.args.arc c.args.test.now (none_tells c.agree.result _ _ c.agree.ensures c.in_err-cube.was))

pub returns-in_err-numbers-clause-exact : goal.returns-in_err-numbers-clause-exact
returns-in_err-numbers-clause-exact g c =
    let agreed = some_tells c.agree.result _ _ c.in_ok-cube.cube c.agree.ensures c.in_ok-cube.was in
    ap (option_map numbers_of) c.from_residual-in_err-numbers.ensures ∙ sym c.in_err-numbers.was ∙ c.within.ensures
    ∙ tested g.row.W c.args.known c.args.arc c.args.test.now c.in_ok-cube.cube agreed.numbers

pub from_numbers-requires : goal.from_numbers-requires
from_numbers-requires g c =
    let agreed = some_tells c.agree.result _ _ c.in_ok-cube.cube c.agree.ensures c.in_ok-cube.was in
    let fact = tested_fact g.row.W c.args.known c.args.arc c.args.test.now c.in_ok-cube.cube agreed.numbers c.in_ok-numbers.numbers
    (sym c.within.ensures ∙ c.in_ok-numbers.was) in
    (omega arith, (c.args.known.width, fact))

pub returns-clause-exact : goal.returns-clause-exact
returns-clause-exact g c =
    let agreed = some_tells c.agree.result _ _ c.in_ok-cube.cube c.agree.ensures c.in_ok-cube.was in
    ap Some c.from_numbers.ensures ∙ sym c.in_ok-numbers.was ∙ c.within.ensures
    ∙ tested g.row.W c.args.known c.args.arc c.args.test.now c.in_ok-cube.cube agreed.numbers

-- the members of the arc that agree with the masks and pass the test
cut_has : (W : ℕ) (known : Known W) (arc : Wrapped W) (test : Test W) (o : Option (Fact W)) → option_map numbers_of o ≡ sharp_in W (span_of arc) (meet (in_known W known) (in_test W test)) →
    (x : ℕ) → in_known W known x ≡ true → in_arc W arc x ≡ true → in_test W test x ≡ true → IsSomeAnd o (λ fact. IsTrue (in_fact W fact x))
cut_has W known arc test o same x cube here passes = shown_has numbers_of W x o
    (sharp_in_has W (span_of arc) (meet (in_known W known) (in_test W test)) arc.arc (option_map numbers_of o) same x (in_span_fits W (span_of arc) x here) here
    (meet_from (in_known W known) (in_test W test) x cube passes))

pub returns-in_err-cube-clause-covers : goal.returns-in_err-cube-clause-covers
returns-in_err-cube-clause-covers g c x cube here passes =
    cut_has g.row.W c.args.known c.args.arc c.args.test.now c.from_residual.result (returns-in_err-cube-clause-exact g c) x cube here passes

pub returns-in_err-numbers-clause-covers : goal.returns-in_err-numbers-clause-covers
returns-in_err-numbers-clause-covers g c x cube here passes =
    cut_has g.row.W c.args.known c.args.arc c.args.test.now c.from_residual-in_err-numbers.result (returns-in_err-numbers-clause-exact g c) x cube here passes

pub returns-clause-covers : goal.returns-clause-covers
returns-clause-covers g c x cube here passes =
    cut_has g.row.W c.args.known c.args.arc c.args.test.now (Some c.from_numbers.result) (returns-clause-exact g c) x cube here passes
