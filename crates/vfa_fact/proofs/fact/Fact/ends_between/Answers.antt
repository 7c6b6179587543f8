use Rattle.std.proofs.Common.{◌∙◌, ap, sym, FitsSigned, rules, refl}
use Rattle.std.specs.Int.{w128}
use Rattle.std.specs.Option.{option_map}
use Rattle.std.proofs.lemmas.Int.{to_z-of_z}
use Rattle.std.proofs.Math.Nat.{mod-eq_of_lt}
use Rattle.vfa_word.specs.Numbers.{signed_of}
use Rattle.vfa_wrap.specs.Ends.{shown_ends}
use Rattle.vfa_fact.specs.Fact.{in_numbers_fits}
use Rattle.vfa_fact.specs.Views.{numbers_of, in_fact}
use Rattle.vfa_fact.proofs.HalvedEnds.{halves_none, halves_some, or_fact, equal_ends}
use Rattle.vfa_fact.proofs.fact.Fact.ends_between.Goals as goal

pub returns-in_err-lower : goal.returns-in_err-lower
returns-in_err-lower g c = let fact = c.args.self.now in
    ap (option_map (shown_ends {W = g.row.W})) c.from_residual.ensures
    ∙ sym (halves_none g.row.W c.args.low c.args.high c.min.result c.max.result _ (in_fact g.row.W fact) fact.known.width
    (λ x member. in_numbers_fits g.row.W (numbers_of fact) x member) refl c.min.ensures c.max.ensures
    c.part-below.result c.part-above.result c.part-below.ensures.ends c.part-above.ensures.ends (sym c.or.ensures ∙ c.in_err-lower.was))

pub returns : goal.returns
returns g c = let fact = c.args.self.now in
    let first_fits : FitsSigned w128 c.signed.result = search rules in
    let last_fits : FitsSigned w128 c.signed-2.result = search rules in
    let lower = or_fact g.row.W c.part-below.result c.part-above.result c.in_ok-lower.lower c.part-below.ensures.fact c.part-above.ensures.fact (sym c.or.ensures ∙ c.in_ok-lower.was) in
    let upper = or_fact g.row.W c.part-above.result c.part-below.result c.in_ok-upper.upper c.part-above.ensures.fact c.part-below.ensures.fact (sym c.or-2.ensures ∙ c.in_ok-upper.was) in
    equal_ends c.in_ok-lower.lower.first c.in_ok-upper.upper.last _ _ (signed_of g.row.W c.in_ok-upper.upper.first) (signed_of g.row.W c.in_ok-lower.lower.last)
    (to_z-of_z w128 c.signed.result first_fits ∙ c.signed.ensures.value ∙ ap (signed_of g.row.W) (c.cut.ensures ∙ mod-eq_of_lt upper.arc.first_fits))
    (to_z-of_z w128 c.signed-2.result last_fits ∙ c.signed-2.ensures.value ∙ ap (signed_of g.row.W) (c.cut-2.ensures ∙ mod-eq_of_lt lower.arc.last_fits))
    ∙ sym (halves_some g.row.W c.args.low c.args.high c.min.result c.max.result _ (in_fact g.row.W fact) fact.known.width
    (λ x member. in_numbers_fits g.row.W (numbers_of fact) x member) refl c.min.ensures c.max.ensures
    c.part-below.result c.part-above.result c.in_ok-lower.lower c.in_ok-upper.upper c.part-below.ensures.ends c.part-above.ensures.ends
    (sym c.or.ensures ∙ c.in_ok-lower.was) (sym c.or-2.ensures ∙ c.in_ok-upper.was))
